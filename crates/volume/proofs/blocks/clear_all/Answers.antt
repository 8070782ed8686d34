use Rattle.std.proofs.Common.{◌+◌, ◌<◌, ℕ, take, slice_index_or, refl, sym, subst}
use Rattle.volume.specs.Common.{ClearsBits}
use Rattle.volume.proofs.common.BlockLists.{next_there, clears_next}
use Rattle.volume.proofs.common.TableBits.{bit_few}
use Rattle.volume.proofs.blocks.clear_all.Goals as goal

pub clear-requires : goal.clear-requires
clear-requires c =
    let block = slice_index_or c.args.blocks.now c.loop-block.block-index 0 in
    subst (λ (n : ℕ). block < n) (sym c.loop-block.invariant.marks.size)
    (c.requires.inside block (next_there c.args.blocks.now c.loop-block.block-index block c.loop-block-test.true refl))

pub loop-block-preserved : goal.loop-block-preserved
loop-block-preserved c =
    let block = slice_index_or c.args.blocks.now c.loop-block.block-index 0 in
    let inside = subst (λ (n : ℕ). block < n) (sym c.loop-block.invariant.marks.size)
    (c.requires.inside block
    (next_there c.args.blocks.now c.loop-block.block-index block c.loop-block-test.true refl)) in
    subst (λ u. ClearsBits c.args.table.now u (take (c.loop-block.block-index + 1) c.args.blocks.now))
    (sym c.clear.ensures.bits)
    (clears_next c.args.blocks.now c.loop-block.block-index block c.loop-block-test.true refl c.args.table.now
    c.loop-block.table inside c.requires.set (bit_few c.args.table.now) c.loop-block.invariant)
