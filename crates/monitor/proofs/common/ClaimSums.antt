-- A test of the members of a list is a sum over them.
use Rattle.std.proofs.Common.{◌≡◌, ℕ, ◌+◌, Bool, true, false, nat_lt, List, [], ◌∷◌, refl, sym, ap, ◌∙◌, arith}
use Rattle.std.proofs.lemmas.Bool.Decides.{nat_tests}
use Rattle.std.specs.List.{list_any}
use Rattle.std.specs.Prelude.{◌||◌, if◌then◌else◌}
use Rattle.spec_image.specs.Common.{total}

abbrev pub one_if : Bool → ℕ
one_if b = if b then 1 else 0

pub any_is_sum : {X : Type 0} (f : X → Bool) (xs : List X) → list_any f xs ≡ nat_lt 0 (total (λ x. one_if (f x)) xs)
any_is_sum f [] = refl
any_is_sum f (x ∷ xs) = ap (λ b. f x || b) (any_is_sum f xs) ∙ by (f x) (total (λ y. one_if (f y)) xs)
  where
    more : (n : ℕ) → nat_lt 0 (1 + n) ≡ true
    more n = grind (arith, nat_tests)

    by : (b : Bool) (n : ℕ) → (b || nat_lt 0 n) ≡ nat_lt 0 (one_if b + n)
    by true n = sym (more n)
    by false n = let same : n ≡ 0 + n = omega arith in ap (nat_lt 0) same

pub same_any : {X Y : Type 0} (f : X → Bool) (g : Y → Bool) (xs : List X) (ys : List Y)
    → total (λ x. one_if (f x)) xs ≡ total (λ y. one_if (g y)) ys → list_any f xs ≡ list_any g ys
same_any f g xs ys same = any_is_sum f xs ∙ ap (nat_lt 0) same ∙ sym (any_is_sum g ys)
