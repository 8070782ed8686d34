-- Lists of places: how often each occurs, and what holds for each.
use Rattle.std.proofs.Common.{◌≡◌, ◌⊎◌, inl, inr, ℕ, zero, suc, ◌+◌, ◌<◌, ◌≤◌, Bool, true, false, cond, ◌==◌, List}
use Rattle.std.proofs.Common.{[], ◌∷◌, ◌++◌, length, take, drop, slice_set, slice_get, Some, refl, sym, ap, subst}
use Rattle.std.proofs.Common.{arith, eqb-true, eq-eqb, ne_eqb}
use Rattle.std.proofs.lemmas.Bool.{eqb-false}
use Rattle.std.specs.List.{AllByRecursion}
use Rattle.spec_image.specs.Common.{times}
use Rattle.spec_image.proofs.Common.{times_here, times_later, some_none, some_same}

-- 1 for a number itself, and 0 for another
abbrev pub one : ℕ → ℕ → ℕ
one p q = cond (p == q) 1 0

pub one_same : (p : ℕ) → one p p ≡ 1
one_same p = ap (λ b. cond b 1 0) (eq-eqb p p refl)

pub one_other : (p q : ℕ) → (p ≡ q → ⊥) → one p q ≡ 0
one_other p q other = ap (λ b. cond b 1 0) (ne_eqb p q other)

pub same_or_not : (p q : ℕ) → (p ≡ q) ⊎ (p ≡ q → ⊥)
same_or_not p q = step (p == q) refl
  where
    step : (b : Bool) → (p == q) ≡ b → (p ≡ q) ⊎ (p ≡ q → ⊥)
    step true e = inl (eqb-true p q e)
    step false e = inr (eqb-false p q e)

pub strict : (a b : ℕ) → a ≤ b → (a ≡ b → ⊥) → a < b
strict zero zero h apart = absurd (apart refl)
strict zero (suc b) h apart = omega arith
strict (suc a) zero h apart = absurd (omega arith)
strict (suc a) (suc b) h apart = let r = strict a b (omega arith) (λ e. apart (ap suc e)) in omega arith

-- what holds for each, and more for each that is there
pub all_in : (P Q : ℕ → Type 0) (ps : List ℕ) → ((p : ℕ) → 0 < times p ps → P p → Q p) → AllByRecursion P ps
    → AllByRecursion Q ps
all_in P Q [] f all = tt
all_in P Q (p ∷ ps) f all = (
  f p (times_here p ps) all.0,
  all_in P Q ps (λ q h. f q (times_later q p ps h)) all.1,
)

pub all_at : (P : ℕ → Type 0) (ps : List ℕ) → AllByRecursion P ps → (p : ℕ) → 0 < times p ps → P p
all_at P [] all p h = absurd (omega arith)
all_at P (q ∷ ps) all p h = step (same_or_not p q) (all_at P ps all.1 p)
  where
    step : (p ≡ q) ⊎ (p ≡ q → ⊥) → (0 < times p ps → P p) → P p
    step (inl e) rest = subst P (sym e) all.0
    step (inr other) rest = let none = one_other p q other in rest (omega arith)

pub all_take : (P : ℕ → Type 0) (i : ℕ) (ps : List ℕ) → AllByRecursion P ps → AllByRecursion P (take i ps)
all_take P zero ps all = tt
all_take P (suc i) [] all = tt
all_take P (suc i) (p ∷ ps) all = (all.0, all_take P i ps all.1)

pub all_drop : (P : ℕ → Type 0) (i : ℕ) (ps : List ℕ) → AllByRecursion P ps → AllByRecursion P (drop i ps)
all_drop P zero ps all = all
all_drop P (suc i) [] all = tt
all_drop P (suc i) (p ∷ ps) all = all_drop P i ps all.1

-- how often a number occurs after a place was left, or entered
pub times_left : (ps : List ℕ) (i q p : ℕ) → slice_get ps i ≡ Some q
    → times p (take i ps ++ drop (suc i) ps) + one p q ≡ times p ps
times_left [] i q p is = absurd (some_none (sym is))
times_left (r ∷ ps) zero q p is = let e : r ≡ q = some_same is in
    subst (λ x. times p ps + one p x ≡ times p (r ∷ ps)) e (omega arith)
times_left (r ∷ ps) (suc i) q p is = let h = times_left ps i q p is in omega arith

pub times_entered : (ps : List ℕ) (i q p : ℕ) → times p (take i ps ++ q ∷ drop i ps) ≡ one p q + times p ps
times_entered ps zero q p = refl
times_entered [] (suc i) q p = refl
times_entered (r ∷ ps) (suc i) q p = let h = times_entered ps i q p in omega arith

pub length_left : (ps : List ℕ) (i q : ℕ) → slice_get ps i ≡ Some q
    → suc (length (take i ps ++ drop (suc i) ps)) ≡ length ps
length_left [] i q is = absurd (some_none (sym is))
length_left (r ∷ ps) zero q is = refl
length_left (r ∷ ps) (suc i) q is = ap suc (length_left ps i q is)

pub length_entered : (ps : List ℕ) (i q : ℕ) → length (take i ps ++ q ∷ drop i ps) ≡ suc (length ps)
length_entered ps zero q = refl
length_entered [] (suc i) q = refl
length_entered (r ∷ ps) (suc i) q = ap suc (length_entered ps i q)

pub times_parts : (ps : List ℕ) (i p : ℕ) → times p (take i ps) + times p (drop i ps) ≡ times p ps
times_parts ps zero p = omega arith
times_parts [] (suc i) p = omega arith
times_parts (r ∷ ps) (suc i) p = let h = times_parts ps i p in omega arith

-- what is in a list occurs in it
pub times_at : (ps : List ℕ) (i p : ℕ) → slice_get ps i ≡ Some p → 0 < times p ps
times_at [] i p is = absurd (some_none (sym is))
times_at (q ∷ ps) zero p is = subst (λ x. 0 < times x (q ∷ ps)) (some_same is) (times_here q ps)
times_at (q ∷ ps) (suc i) p is = times_later p q ps (times_at ps i p is)

-- Reading a list after an edit.

module _ {X : Type 0} where
  pub get_within : (xs : List X) (i : ℕ) → i < length xs → (x : X) × (slice_get xs i ≡ Some x)
  get_within [] i h = absurd (omega arith)
  get_within (x ∷ xs) zero h = (x, refl)
  get_within (x ∷ xs) (suc i) h = get_within xs i (omega arith)

  pub get-take : (n : ℕ) (xs : List X) (i : ℕ) → i < n → slice_get (take n xs) i ≡ slice_get xs i
  get-take zero xs i h = absurd (omega arith)
  get-take (suc n) [] i h = refl
  get-take (suc n) (x ∷ xs) zero h = refl
  get-take (suc n) (x ∷ xs) (suc i) h = get-take n xs i (omega arith)

  pub taken : (n : ℕ) (xs : List X) (i : ℕ) (x : X) → slice_get (take n xs) i ≡ Some x
      → (i < n) × (slice_get xs i ≡ Some x)
  taken zero xs i x is = absurd (some_none (sym is))
  taken (suc n) [] i x is = absurd (some_none (sym is))
  taken (suc n) (y ∷ xs) zero x is = (omega arith, is)
  taken (suc n) (y ∷ xs) (suc i) x is = let r = taken n xs i x is in (let h = r.0 in omega arith, r.1)

  pub get-set_same : (xs : List X) (i : ℕ) (x : X) → i < length xs → slice_get (slice_set xs i x) i ≡ Some x
  get-set_same [] i x h = absurd (omega arith)
  get-set_same (y ∷ xs) zero x h = refl
  get-set_same (y ∷ xs) (suc i) x h = get-set_same xs i x (omega arith)

  pub get-set_other : (xs : List X) (i : ℕ) (x : X) (j : ℕ) → (j ≡ i → ⊥)
      → slice_get (slice_set xs i x) j ≡ slice_get xs j
  get-set_other [] i x j other = refl
  get-set_other (y ∷ xs) zero x zero other = absurd (other refl)
  get-set_other (y ∷ xs) zero x (suc j) other = refl
  get-set_other (y ∷ xs) (suc i) x zero other = refl
  get-set_other (y ∷ xs) (suc i) x (suc j) other = get-set_other xs i x j (λ e. other (ap suc e))

  pub get-push : (xs : List X) (x : X) (i : ℕ) → i < length xs → slice_get (xs ++ x ∷ []) i ≡ slice_get xs i
  get-push [] x i h = absurd (omega arith)
  get-push (y ∷ xs) x zero h = refl
  get-push (y ∷ xs) x (suc i) h = get-push xs x i (omega arith)

  pub get-push_last : (xs : List X) (x : X) → slice_get (xs ++ x ∷ []) (length xs) ≡ Some x
  get-push_last [] x = refl
  get-push_last (y ∷ xs) x = get-push_last xs x
