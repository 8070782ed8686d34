use Rattle.std.proofs.Common.{◌≡◌, ◌<◌, true, false, List, [], ◌∷◌, ◌++◌, length, Some, slice_set, sym, ap, subst}
use Rattle.std.proofs.Common.{arith}
use Rattle.blockdisk.specs.Common.{Writes, Memory, memory_state, IsReplayed}
use Rattle.blockdisk.specs.declared.memory.DiskCall.{DiskCall}
use Rattle.blockdisk.specs.declared.memory.DiskCall.TheVariants.{Write}
use Rattle.blockdisk.proofs.Record.{writes_written, replayed_written}
use Rattle.blockdisk.proofs.memory.MemDiskDisk.write.Goals as goal

pub invariant_of-self-2 : goal.invariant_of-self-2
invariant_of-self-2 c =
    let m : Memory = record {
      blocks = c.self.inside.blocks.items;
      first = c.self.inside.first.items;
      calls = c.self.inside.calls.items;
      opened = c.self.inside.opened.items;
      room = c.self.inside.room;
      failures = c.self.inside.failures;
    } in
    let room : length m.calls < m.room = omega arith in (
      omega (arith, c.in-Ok.ensures.capacity),
      λ (clash : false ≡ true). cc,
      subst (λ (calls : List DiskCall). IsReplayed
          (record m {
            blocks = slice_set m.blocks c.args.n (Some c.args.block.now);
            calls = calls;
            opened = slice_set m.opened c.args.n true;
          })) (sym c.in-Ok.ensures.items)
          (replayed_written m c.args.n c.args.block.now c.self.invariant.2 room),
    )

pub returns-clause-writes : goal.returns-clause-writes
returns-clause-writes c =
    let m : Memory = record {
      blocks = c.self.inside.blocks.items;
      first = c.self.inside.first.items;
      calls = c.self.inside.calls.items;
      opened = c.self.inside.opened.items;
      room = c.self.inside.room;
      failures = c.self.inside.failures;
    } in
    let view : m ≡ c.args.self.now = c.self.view_is in
    let inside : c.args.n < length m.blocks = omega (arith, c.requires, ap (λ (w : Memory). length w.blocks) view) in
    let room : length m.calls < m.room = omega arith in
    subst (λ (calls : List DiskCall). Writes c.args.n (memory_state c.args.self.now)
    (memory_state (record m {
      blocks = slice_set m.blocks c.args.n (Some c.args.block.now);
      calls = calls;
      opened = slice_set m.opened c.args.n true;
    }))) (sym c.in-Ok.ensures.items)
    (subst (λ (w : Memory). Writes c.args.n (memory_state w)
    (memory_state (record m {
      blocks = slice_set m.blocks c.args.n (Some c.args.block.now);
      calls = m.calls ++ Write c.args.n c.args.block.now ∷ [];
      opened = slice_set m.opened c.args.n true;
    }))) view
    (writes_written m c.args.n c.args.block.now inside c.self.invariant.2 room))
