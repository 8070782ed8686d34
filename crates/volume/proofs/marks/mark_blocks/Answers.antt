use Rattle.std.proofs.Common.{◌<◌, ◌+◌, ◌≤◌, ℕ, length, ap, refl, subst, sym, ◌∙◌, arith}
use Rattle.std.proofs.Math.ListN.{length-set}
use Rattle.spec_image.specs.Common.{times}
use Rattle.alloctab.specs.Common.{digit_at}
use Rattle.volume.proofs.common.MarkedBlocks.{all_at, marked_more, marked_twice}
use Rattle.directory.proofs.ChainPuts.{times_get}
use Rattle.volume.proofs.marks.mark_blocks.Goals as goal

pub returns-then-not-mark-clause-twice : goal.returns-then-not-mark-clause-twice
returns-then-not-mark-clause-twice c n is =
    let below : c.loop-i.i < length c.args.version.now.blocks = let a = c.loop-i-test.true in
    let b = c.count-i-end.ensures in omega arith in
    let block = c.block_at-block.result in
    subst (λ (m : ℕ). 2 ≤ digit_at c.args.reached.now m + times m c.args.version.now.blocks) (cc)
    (marked_twice c.args.reached.now c.loop-i.reached c.args.version.now.blocks c.loop-i.i block
    below c.block_at-block.ensures c.loop-i.invariant.marked (λ fresh. let no = c.if-not-mark.ensures.first.1 fresh in
    cc))

pub loop-i-preserved : goal.loop-i-preserved
loop-i-preserved c =
    let below : c.loop-i.i < length c.args.version.now.blocks = let a = c.loop-i-test.true in
    let b = c.count-i-end.ensures in omega arith in
    let block = c.block_at-block.result in
    record {
      long = ap length c.mark.ensures.marked ∙ length-set c.loop-i.reached block _ ∙ c.loop-i.invariant.long;
      marked = λ n. ap (λ flags. digit_at flags n) c.mark.ensures.marked
          ∙ marked_more c.args.reached.now c.loop-i.reached c.args.version.now.blocks c.loop-i.i
          block below c.block_at-block.ensures c.loop-i.invariant.marked
          (subst (λ (n : ℕ). block < n) (sym c.loop-i.invariant.long)
          (subst (λ (n : ℕ). n < length c.args.reached.now) (sym c.block_at-block.ensures)
          (all_at (λ n. n < length c.args.reached.now) c.args.version.now.blocks c.loop-i.i c.requires below)))
          (c.if-not-mark.ensures.first.0 refl) n;
    }

pub returns-then-not-mark-clause-among : goal.returns-then-not-mark-clause-among
returns-then-not-mark-clause-among c n is =
    let below : c.loop-i.i < length c.args.version.now.blocks = let a = c.loop-i-test.true in
    let b = c.count-i-end.ensures in omega arith in
    subst (λ (m : ℕ). 0 < times m c.args.version.now.blocks) (let e = c.block_at-block.ensures in cc)
    (times_get c.args.version.now.blocks c.loop-i.i below)
