-- A range of words that isn't outside a core lies in it.
use Rattle.std.proofs.Common.{◌≡◌, ℕ, ◌+◌, ◌≤◌, false, List, length, arith}
use Rattle.std.proofs.lemmas.Bool.Decides.{nat_tests}
use Rattle.spec_machine.specs.Cores.{lies_outside}

pub inside : (core : List ℕ) (first count : ℕ) → lies_outside core first count ≡ false → first + count ≤ length core
inside core first count e = grind (arith, nat_tests)
