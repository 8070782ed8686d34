use Rattle.spec_image.specs.Common.{times}
use Rattle.alloctab.specs.Common.{holds}
use Rattle.std.proofs.Common.{◌<◌, ◌+◌, ℕ, take, slice_index_or, refl, sym, ap, subst, ◌∙◌, arith}
use Rattle.volume.proofs.common.ReleasedBlocks.{still_held, next_less, rest_more}
use Rattle.volume.proofs.live.unhold_all.Goals as goal

pub unhold-requires-clause-held : goal.unhold-requires-clause-held
unhold-requires-clause-held c =
    let block = slice_index_or c.args.blocks.now c.loop-block.block-index 0 in
    still_held c.args.table.now.held c.loop-block.table.held c.args.blocks.now c.loop-block.block-index
    block c.loop-block-test.true refl c.loop-block.invariant.held (c.requires.held block)

pub unhold-requires-clause-inside : goal.unhold-requires-clause-inside
unhold-requires-clause-inside c =
    let block = slice_index_or c.args.blocks.now c.loop-block.block-index 0 in
    let there = still_held c.args.table.now.held c.loop-block.table.held c.args.blocks.now c.loop-block.block-index
    block c.loop-block-test.true refl c.loop-block.invariant.held (c.requires.held block) in
    let held = c.loop-block.invariant.held block in
    subst (λ (n : ℕ). block < n) (sym (ap (λ t. t.size) c.loop-block.invariant.rest))
    (c.requires.inside block (omega arith))

pub loop-block-preserved : goal.loop-block-preserved
loop-block-preserved c =
    let block = slice_index_or c.args.blocks.now c.loop-block.block-index 0 in
    let there = still_held c.args.table.now.held c.loop-block.table.held c.args.blocks.now c.loop-block.block-index
    block c.loop-block-test.true refl c.loop-block.invariant.held (c.requires.held block) in
    record {
      held = λ n. ap (λ t. holds t n + times n (take (c.loop-block.block-index + 1) c.args.blocks.now)) c.unhold.ensures
          ∙ next_less c.args.table.now.held c.loop-block.table.held c.args.blocks.now c.loop-block.block-index
          block c.loop-block-test.true refl c.loop-block.invariant.held there n;
      rest = rest_more c.args.table.now c.loop-block.table c.unhold.new.self _ c.loop-block.invariant.rest
          c.unhold.ensures;
    }
