use Rattle.std.proofs.Common.{◌+◌, ◌<◌, ℕ, slice_index_or, refl, sym, ap, subst, ◌∙◌}
use Rattle.alloctab.specs.Common.{IsTable, holds, sound-with_held}
use Rattle.volume.proofs.common.ReleasedBlocks.{rest_more}
use Rattle.volume.proofs.common.BlockLists.{next_there, holds_next, holds_fit}
use Rattle.volume.proofs.blocks.hold_all.Goals as goal

pub hold-requires-clause-inside : goal.hold-requires-clause-inside
hold-requires-clause-inside c =
    let block = slice_index_or c.args.blocks.now c.loop-block.block-index 0 in
    subst (λ (n : ℕ). block < n) (sym (ap (λ t. t.size) c.loop-block.invariant.rest))
    (c.requires.inside block (next_there c.args.blocks.now c.loop-block.block-index block c.loop-block-test.true refl))

pub hold-requires-clause-fits : goal.hold-requires-clause-fits
hold-requires-clause-fits c =
    let block = slice_index_or c.args.blocks.now c.loop-block.block-index 0 in
    holds_fit c.args.blocks.now c.loop-block.block-index block c.loop-block-test.true refl c.args.table.now
    c.loop-block.table c.requires.fits c.loop-block.invariant.held

pub loop-block-preserved : goal.loop-block-preserved
loop-block-preserved c =
    let block = slice_index_or c.args.blocks.now c.loop-block.block-index 0 in
    let u = c.loop-block.table in
    let inside = subst (λ (n : ℕ). block < n) (sym (ap (λ t. t.size) c.loop-block.invariant.rest))
    (c.requires.inside block
    (next_there c.args.blocks.now c.loop-block.block-index block c.loop-block-test.true refl)) in
    record {
      sound = subst IsTable (sym c.hold.ensures)
          (sound-with_held u block (holds u block + 1) c.loop-block.invariant.sound);
      held = λ n. ap (λ t. holds t n) c.hold.ensures
          ∙ holds_next c.args.blocks.now c.loop-block.block-index block c.loop-block-test.true refl c.args.table.now
          u c.loop-block.invariant.sound inside c.loop-block.invariant.held n;
      rest = rest_more c.args.table.now u c.hold.new.self _ c.loop-block.invariant.rest c.hold.ensures;
    }
