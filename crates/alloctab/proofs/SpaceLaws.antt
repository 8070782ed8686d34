-- The free space: if no block is free, all of it is used.
use Rattle.std.proofs.Common.{◌≡◌, ℕ, zero, suc, ◌+◌, ◌<◌, refl, arith}
use Rattle.std.proofs.lemmas.Bool.Decides.{nat_tests}
use Rattle.spec_image.specs.Common.{space_start, sum_below, InSpace}
use Rattle.alloctab.specs.Common.{TableState, IsTable, IsFree, bit, holds, used, used_in_space, space}

-- a block of the free space isn't block 0
pub in_space_some : (size n : ℕ) → InSpace size n → 0 < n
in_space_some size n i = let f = i.from in omega arith

pub used_one : (t : TableState) (n : ℕ) → (IsFree t n → ⊥) → used t n ≡ 1
used_one t n not_free = by_case (bit t n) (holds t n) refl refl
  where
    by_case : (b h : ℕ) → bit t n ≡ b → holds t n ≡ h → used t n ≡ 1
    by_case zero zero b h = absurd (not_free (record { clear = b; unheld = h }))
    by_case (suc b) h e f = grind (arith, nat_tests)
    by_case zero (suc h) e f = grind (arith, nat_tests)

sum_of_ones : (f : ℕ → ℕ) (k : ℕ) → ((n : ℕ) → n < k → f n ≡ 1) → sum_below f k ≡ k
sum_of_ones f zero h = refl
sum_of_ones f (suc k) h = let one = h k (omega arith) in let rest = sum_of_ones f k (λ n l. h n (omega arith)) in
    omega arith

pub space_used : (t : TableState) → IsTable t → ((n : ℕ) → n < t.size → IsFree t n → ⊥) → used_in_space t ≡ space t.size
space_used t sound none = sum_of_ones (λ k. used t (space_start t.size + k)) (space t.size)
    (λ n below. used_one t (space_start t.size + n) (none (space_start t.size + n) (omega arith)))
