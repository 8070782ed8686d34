use Rattle.std.proofs.Common.{◌≡◌, ◌<◌, ◌/◌, ℕ}
use Rattle.spec_image.specs.Common.{bit_of}
use Rattle.salvage.proofs.free.frees_fixed.Given as goal

abbrev pub invariant-loop-n : goal.invariant-loop-n
invariant-loop-n l = (k : ℕ) → k / 4608 ≡ l.i → k < l.n → bit_of l.words k ≡ 1
