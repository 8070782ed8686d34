use Rattle.std.proofs.Common.{◌≡◌, length, Some, get_or, ◌<◌, ℕ, []}
use Rattle.imagefile.specs.Common.{spelled_blocks}
use Rattle.imagefile.proofs.codec.fill_blocks.Given as goal

abbrev pub invariant-loop-place : goal.invariant-loop-place
invariant-loop-place l = record {
  filled : (i : ℕ) → i < l.place → spelled_blocks l.form l.bytes i ≡ Some (get_or l.blocks i []);
  long : length l.blocks ≡ length l.fn.blocks;
}
