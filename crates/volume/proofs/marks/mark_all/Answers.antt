use Rattle.std.proofs.Common.{◌<◌, ◌+◌, ◌≤◌, ℕ, slice_index_or, length, ap, refl, subst, sym, ◌∙◌}
use Rattle.std.proofs.Math.ListN.{length-set}
use Rattle.spec_image.specs.Common.{times}
use Rattle.alloctab.specs.Common.{digit_at}
use Rattle.volume.proofs.common.MarkedBlocks.{all_at, marked_more, marked_twice}
use Rattle.directory.proofs.ChainPuts.{times_get}
use Rattle.volume.proofs.marks.mark_all.Goals as goal

pub returns-then-not-mark-clause-twice : goal.returns-then-not-mark-clause-twice
returns-then-not-mark-clause-twice c n is =
    let block = slice_index_or c.args.blocks.now c.loop-block.block-index 0 in
    subst (λ (m : ℕ). 2 ≤ digit_at c.args.reached.now m + times m c.args.blocks.now) (cc)
    (marked_twice c.args.reached.now c.loop-block.reached c.args.blocks.now c.loop-block.block-index block
    c.loop-block-test.true refl c.loop-block.invariant.marked (λ fresh. let no = c.if-not-mark.ensures.first.1 fresh in
    cc))

pub loop-block-preserved : goal.loop-block-preserved
loop-block-preserved c =
    let block = slice_index_or c.args.blocks.now c.loop-block.block-index 0 in
    record {
      long = ap length c.mark.ensures.marked ∙ length-set c.loop-block.reached block _ ∙ c.loop-block.invariant.long;
      marked = λ n. ap (λ flags. digit_at flags n) c.mark.ensures.marked
          ∙ marked_more c.args.reached.now c.loop-block.reached c.args.blocks.now c.loop-block.block-index
          block c.loop-block-test.true refl c.loop-block.invariant.marked
          (subst (λ (n : ℕ). block < n) (sym c.loop-block.invariant.long)
          (all_at (λ n. n < length c.args.reached.now) c.args.blocks.now c.loop-block.block-index c.requires
          c.loop-block-test.true)) (c.if-not-mark.ensures.first.0 refl) n;
    }

pub returns-then-not-mark-clause-among : goal.returns-then-not-mark-clause-among
returns-then-not-mark-clause-among c n is = subst (λ (m : ℕ). 0 < times m c.args.blocks.now) (cc)
    (times_get c.args.blocks.now c.loop-block.block-index c.loop-block-test.true)
