use Rattle.std.proofs.Common.{◌∙◌, arith}
use Rattle.volume.specs.Common.{memory_of}
use Rattle.volume.proofs.BeginVersion.Beginnings.{known_place}
use Rattle.volume.proofs.Charges.Charges.{moved_over}
use Rattle.volume.proofs.common.Growths.{entries_few}
use Rattle.volume.proofs.charge.move_is_over.Goals as goal

pub growth_at-requires-clause-few : goal.growth_at-requires-clause-few
growth_at-requires-clause-few c d at =
    let m = c.args.memory.now in
    let few = entries_few m.table.size (memory_of m) c.args.to c.in-Ok.place d c.requires.whole at in
    omega arith

pub returns : goal.returns
returns c d t there there_t old named =
    let m = c.args.memory.now in
    let whole = c.requires.whole in
    let stands = c.in-Ok.ensures.found in
    let e = known_place m whole c.args.to c.in-Ok.place stands.0 stands.1 in
    moved_over whole c.args.ppn c.args.name.now c.in-Ok-find_before.ensures.before d there old named c.args.to t
    there_t c.in-Ok.place stands.0 e.0 c.from-cost.result c.from.result stands.1.is e.1
    (c.from-cost.ensures ∙ c.cost_before.ensures) (c.from.ensures ∙ c.growth_at.ensures.value e.0 e.1)
    c.is_over.result c.is_over.ensures
