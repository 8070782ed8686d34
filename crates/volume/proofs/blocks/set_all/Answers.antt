use Rattle.std.proofs.Common.{◌+◌, ◌<◌, ℕ, take, slice_index_or, refl, sym, subst}
use Rattle.volume.specs.Common.{SetsBits}
use Rattle.volume.proofs.common.BlockLists.{next_there, sets_next}
use Rattle.volume.proofs.blocks.set_all.Goals as goal

pub set-requires : goal.set-requires
set-requires c =
    let block = slice_index_or c.args.blocks.now c.loop-block.block-index 0 in
    subst (λ (n : ℕ). block < n) (sym c.loop-block.invariant.marks.size)
    (c.requires.inside block (next_there c.args.blocks.now c.loop-block.block-index block c.loop-block-test.true refl))

pub loop-block-preserved : goal.loop-block-preserved
loop-block-preserved c =
    let block = slice_index_or c.args.blocks.now c.loop-block.block-index 0 in
    let inside = subst (λ (n : ℕ). block < n) (sym c.loop-block.invariant.marks.size)
    (c.requires.inside block
    (next_there c.args.blocks.now c.loop-block.block-index block c.loop-block-test.true refl)) in
    subst (λ u. SetsBits c.args.table.now u (take (c.loop-block.block-index + 1) c.args.blocks.now))
    (sym c.set.ensures.bits)
    (sets_next c.args.blocks.now c.loop-block.block-index block c.loop-block-test.true refl c.args.table.now
    c.loop-block.table inside c.requires.clear c.loop-block.invariant)
