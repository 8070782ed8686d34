use Rattle.std.proofs.Common.{◌≡◌, ◌+◌, ℕ, length, take}
use Rattle.spec_image.specs.Common.{times}
use Rattle.alloctab.specs.Common.{digit_at}
use Rattle.volume.proofs.marks.mark_all.Given as goal

abbrev pub invariant-loop-block : goal.invariant-loop-block
invariant-loop-block l = record {
  long : length l.reached ≡ length l.fn.reached;
  marked : (n : ℕ) → digit_at l.reached n ≡ digit_at l.fn.reached n + times n (take l.block-index l.blocks);
}
