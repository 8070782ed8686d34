-- Comparisons of numbers.
use Rattle.std.proofs.Common.{◌≡◌, ◌<◌, ℕ, true, false, nat_lt, arith}
use Rattle.std.proofs.lemmas.Bool.Decides.{nat_tests}

pub less : (a b : ℕ) → a < b → nat_lt a b ≡ true
less a b h = grind (arith, nat_tests)

pub not_less : (a b : ℕ) → (a < b → ⊥) → nat_lt a b ≡ false
not_less a b h = grind (arith, nat_tests)
