use Rattle.std.proofs.Common.{◌+◌, ◌<◌, ℕ, take, sym, subst, length, arith}
use Rattle.volume.specs.Common.{SetsBits}
use Rattle.volume.proofs.common.BlockLists.{next_there, sets_next}
use Rattle.volume.proofs.blocks.set_blocks.Goals as goal

pub set-requires : goal.set-requires
set-requires c =
    let below : c.loop-i.i < length c.args.version.now.blocks = let a = c.loop-i-test.true in
    let b = c.count-i-end.ensures in omega arith in
    let block = c.block_at.result in
    subst (λ (n : ℕ). block < n) (sym c.loop-i.invariant.marks.size)
    (c.requires.inside block (next_there c.args.version.now.blocks c.loop-i.i block below c.block_at.ensures))

pub loop-i-preserved : goal.loop-i-preserved
loop-i-preserved c =
    let below : c.loop-i.i < length c.args.version.now.blocks = let a = c.loop-i-test.true in
    let b = c.count-i-end.ensures in omega arith in
    let block = c.block_at.result in
    let inside = subst (λ (n : ℕ). block < n) (sym c.loop-i.invariant.marks.size)
    (c.requires.inside block
    (next_there c.args.version.now.blocks c.loop-i.i block below c.block_at.ensures)) in
    subst (λ u. SetsBits c.args.table.now u (take (c.loop-i.i + 1) c.args.version.now.blocks))
    (sym c.set.ensures.bits)
    (sets_next c.args.version.now.blocks c.loop-i.i block below c.block_at.ensures c.args.table.now
    c.loop-i.table inside c.requires.clear c.loop-i.invariant)
