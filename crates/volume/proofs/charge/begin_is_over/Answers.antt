use Rattle.std.proofs.Common.{◌∙◌, sym, arith}
use Rattle.spec_image.proofs.Common.{some_none}
use Rattle.volume.specs.Common.{memory_of}
use Rattle.volume.proofs.BeginVersion.Beginnings.{known_place}
use Rattle.volume.proofs.Charges.Charges.{begun_over}
use Rattle.volume.proofs.common.Growths.{entries_few}
use Rattle.volume.proofs.charge.begin_is_over.Goals as goal

pub begin_cost-cost-requires-clause-few : goal.begin_cost-cost-requires-clause-few
begin_cost-cost-requires-clause-few c d at =
    let m = c.args.memory.now in
    let few = entries_few m.table.size (memory_of m) c.args.ppn c.in-Ok.place d c.requires.whole at in
    omega arith

pub returns-clause-value : goal.returns-clause-value
returns-clause-value c d there old named =
    let m = c.args.memory.now in
    let whole = c.requires.whole in
    let stands = c.in-Ok.ensures.found in
    let e = known_place m whole c.args.ppn c.in-Ok.place stands.0 stands.1 in
    begun_over whole c.args.ppn c.args.name.now c.in-Ok-find_before.ensures.before d there old named c.args.kind
    c.in-Ok.place stands.0 e.0 c.from.result stands.1.is e.1
    (c.from.ensures ∙ c.begin_cost-cost.ensures.value e.0 e.1) c.is_over.result c.is_over.ensures

pub returns-clause-absent : goal.returns-clause-absent
returns-clause-absent c none = absurd (some_none (sym c.in-Ok.ensures.found.1.found ∙ none))
