use Rattle.std.proofs.Common.{◌≡◌, ◌+◌, ◌-◌, sym, ap, subst, ◌∙◌, arith}
use Rattle.alloctab.specs.Common.{TableState}
use Rattle.volume.specs.Common.{IsWholeMemory, memory_of}
use Rattle.volume.proofs.DiscardVersion.Memory.{taken_out, dropped_there, dropped_few, dropped_held, dropped_growths}
use Rattle.volume.proofs.DiscardVersion.Memory.{dropped_booked, dropped_whole}
use Rattle.volume.proofs.discard.discard_in_memory.Goals as goal

pub shrinkage-requires-clause-there : goal.shrinkage-requires-clause-there
shrinkage-requires-clause-there c =
    let memory = c.args.memory.now in
    let p = c.in-Some.version in
    let adds = taken_out memory.pending c.try_remove.new.self c.args.key p c.in-Some.ensures.updates
    (sym c.in-Some.ensures.value) in
    dropped_there memory.table.size (memory_of memory) c.requires.whole c.try_remove.new.self.slots c.args.key p adds

pub shrinkage-requires-clause-few : goal.shrinkage-requires-clause-few
shrinkage-requires-clause-few c place d at =
    let memory = c.args.memory.now in
    let p = c.in-Some.version in
    let adds = taken_out memory.pending c.try_remove.new.self c.args.key p c.in-Some.ensures.updates
    (sym c.in-Some.ensures.value) in
    let few = dropped_few memory.table.size (memory_of memory) c.requires.whole c.try_remove.new.self.slots c.args.key
    p adds place d at in
    omega arith

pub unhold_blocks-requires-clause-held : goal.unhold_blocks-requires-clause-held
unhold_blocks-requires-clause-held c n =
    let memory = c.args.memory.now in
    let p = c.in-Some.version in
    let adds = taken_out memory.pending c.try_remove.new.self c.args.key p c.in-Some.ensures.updates
    (sym c.in-Some.ensures.value) in
    (dropped_held memory.table.size (memory_of memory) c.requires.whole c.try_remove.new.self.slots c.args.key p adds n)

pub unbook-requires : goal.unbook-requires
unbook-requires c =
    let memory = c.args.memory.now in
    let p = c.in-Some.version in
    let adds = taken_out memory.pending c.try_remove.new.self c.args.key p c.in-Some.ensures.updates
    (sym c.in-Some.ensures.value) in
    let shrinks = dropped_growths memory.table.size (memory_of memory) c.requires.whole c.try_remove.new.self.slots
    c.args.key p adds c.shrinkage.result c.shrinkage.ensures.none c.shrinkage.ensures.value in
    let few = dropped_booked memory.table.size (memory_of memory) c.requires.whole c.try_remove.new.self.slots
    c.args.key p adds c.shrinkage.result shrinks in
    let cost = c.version_cost.ensures in
    let same = ap (λ (t : TableState). t.booked) c.unhold_blocks.ensures.rest in
    omega arith

pub returns-clause-whole : goal.returns-clause-whole
returns-clause-whole c =
    let memory = c.args.memory.now in
    let p = c.in-Some.version in
    let adds = taken_out memory.pending c.try_remove.new.self c.args.key p c.in-Some.ensures.updates
    (sym c.in-Some.ensures.value) in
    let shrinks = dropped_growths memory.table.size (memory_of memory) c.requires.whole c.try_remove.new.self.slots
    c.args.key p adds c.shrinkage.result c.shrinkage.ensures.none c.shrinkage.ensures.value in
    let few = dropped_booked memory.table.size (memory_of memory) c.requires.whole c.try_remove.new.self.slots
    c.args.key p adds c.shrinkage.result shrinks in
    let cost = c.version_cost.ensures in
    let booked = memory.table.booked - (c.version_cost.result + c.shrinkage.result) in
    let rest : c.unbook.new.self ≡ record memory.table { held = c.unhold_blocks.new.table.held; booked = booked } =
    c.unbook.ensures ∙ (λ i. record (c.unhold_blocks.ensures.rest i) {
      held = c.unhold_blocks.new.table.held;
      booked = (c.unhold_blocks.ensures.rest i).booked - (c.version_cost.result + c.shrinkage.result);
    }) in
    let whole = dropped_whole memory.table.size (memory_of memory) c.requires.whole c.try_remove.new.self.slots
    c.args.key p adds c.shrinkage.result shrinks c.unhold_blocks.new.table.held booked
    (λ n. c.unhold_blocks.ensures.held n) (omega arith) in
    subst (λ (t : TableState). IsWholeMemory t.size
    (memory_of (record {
      master = memory.master;
      directories = memory.directories;
      versions = memory.versions;
      pending = c.try_remove.new.self;
      table = t;
    }))) (sym rest) whole
