use Rattle.std.proofs.Common.{◌≡◌, ◌<◌, ℕ, Some, [], get_or}
use Rattle.imagefile.specs.Common.{spelled_blocks}
use Rattle.imagefile.proofs.codec.put_blocks.Given as goal

abbrev pub invariant-loop-place : goal.invariant-loop-place
invariant-loop-place l = (i : ℕ) → i < l.place → spelled_blocks l.form l.bytes i ≡ Some (get_or l.blocks i [])
