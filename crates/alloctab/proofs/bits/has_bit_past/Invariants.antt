use Rattle.std.proofs.Common.{◌≡◌, ◌<◌, ◌≤◌, ◌/◌, ℕ}
use Rattle.spec_image.specs.Common.{bit_of}
use Rattle.alloctab.proofs.bits.has_bit_past.Given as goal

abbrev pub invariant-loop-n : goal.invariant-loop-n
invariant-loop-n l = (k : ℕ) → k < l.n → k / 4608 ≡ l.i → l.size ≤ k → bit_of l.words k ≡ 0
