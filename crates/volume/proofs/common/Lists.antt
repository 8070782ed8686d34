-- Lists, of which one element is another, and sums over them.
use Rattle.std.proofs.Common.{◌≡◌, ℕ, ◌+◌, ◌<◌, ◌⊎◌, List, [], ◌∷◌, ◌++◌, length, Option, Some, None}
use Rattle.std.proofs.Common.{option_map, refl, ◌∙◌, arith, zero, suc, slice_get, slice_set}
use Rattle.std.proofs.Common.{inl, inr, ⊎_elim, sym, ap}
use Rattle.spec_image.specs.Common.{head_or_zero, EachOnce, SpecMasterEntry, SpecFileEntry, name_cmp, total}
use Rattle.spec_image.proofs.Common.{some_none, some_same, find_first, find_tail_none, name_total}
use Rattle.std.specs.List.{AllByRecursion}
use Rattle.std.specs.Ordering.{nat_cmp}
use Rattle.volume.proofs.common.Growths.{one_place}
use Rattle.std.specs.FinMap.Entries.{find}
use Rattle.words36.specs.declared.names.FileName.{FileName}

pub set_there : {X : Type 0} (xs : List X) (i : ℕ) (x y : X) → slice_get xs i ≡ Some x → slice_get (slice_set xs i y) i
    ≡ Some y
set_there [] i x y is = absurd (some_none (sym is))
set_there (z ∷ xs) zero x y is = refl
set_there (z ∷ xs) (suc i) x y is = set_there xs i x y is

-- a name that isn't found is at no place
pub absent_at : (es : List SpecFileEntry) (i : ℕ) (name : FileName) (w : ℕ) → slice_get es i ≡ Some (name, w)
    → find name_cmp name es ≡ None → ⊥
absent_at [] i name w is none = some_none (sym is)
absent_at (e ∷ es) zero name w is none =
    let same : e ≡ (name, w) = some_same is in
    some_none (sym (find_first name_total e es) ∙ ap (λ (x : SpecFileEntry). find name_cmp x.0 (e ∷ es)) same ∙ none)
absent_at (e ∷ es) (suc i) name w is none = absent_at es i name w is (find_tail_none name_cmp e es name none)

pub one_entry : (es : List SpecFileEntry) (i j : ℕ) (name : FileName) (v w : ℕ) → EachOnce name_cmp es
    → slice_get es i ≡ Some (name, v) → slice_get es j ≡ Some (name, w) → i ≡ j
one_entry [] i j name v w once is is' = absurd (some_none (sym is))
one_entry (e ∷ es) zero zero name v w once is is' = refl
one_entry (e ∷ es) zero (suc j) name v w once is is' =
    let same : e ≡ (name, v) = some_same is in
    absurd (absent_at es j name w is' (ap (λ (x : SpecFileEntry). find name_cmp x.0 es) (sym same) ∙ once.0))
one_entry (e ∷ es) (suc i) zero name v w once is is' =
    let same : e ≡ (name, w) = some_same is' in
    absurd (absent_at es i name v is (ap (λ (x : SpecFileEntry). find name_cmp x.0 es) (sym same) ∙ once.0))
one_entry (e ∷ es) (suc i) (suc j) name v w once is is' = ap suc (one_entry es i j name v w once.1 is is')

pub total_set : {X : Type 0} (f : X → ℕ) (xs : List X) (i : ℕ) (x y : X) → slice_get xs i ≡ Some x
    → total f (slice_set xs i y) + f x ≡ total f xs + f y
total_set f [] i x y is = absurd (some_none (sym is))
total_set f (z ∷ xs) zero x y is = let same = ap f (some_same is) in omega arith
total_set f (z ∷ xs) (suc i) x y is = let rest = total_set f xs i x y is in omega arith

-- what is in a list with one element changed
pub set_cases : {A : Type 0} (xs : List A) (i j : ℕ) (x y : A) → slice_get (slice_set xs i x) j ≡ Some y
    → ((j ≡ i) × (y ≡ x)) ⊎ ((j ≡ i → ⊥) × (slice_get xs j ≡ Some y))
set_cases [] i j x y is = absurd (some_none (sym is))
set_cases (z ∷ xs) zero zero x y is = inl (refl, sym (some_same is))
set_cases (z ∷ xs) zero (suc j) x y is = inr (λ same. omega arith, is)
set_cases (z ∷ xs) (suc i) zero x y is = inr (λ same. omega arith, is)
set_cases (z ∷ xs) (suc i) (suc j) x y is = ⊎_elim (λ new. inl (ap suc new.0, new.1))
    (λ old. inr (λ same. old.0 (omega arith), old.1)) (set_cases xs i j x y is)

-- two places have two keys
pub other_key : (es : List SpecMasterEntry) (i j k : ℕ) (e : SpecMasterEntry) (w : ℕ × ℕ) → EachOnce nat_cmp es
    → slice_get es i ≡ Some e → slice_get es j ≡ Some (k, w) → (i ≡ j → ⊥) → e.0 ≡ k → ⊥
other_key es i j k e w once is is' other same = other (one_place es i j k e.1 w once (is
    ∙ ap (λ (q : ℕ). Some (q, e.1)) same) is')

pub set_each : {A : Type 0} (P : A → Type 0) (xs : List A) (i : ℕ) (y : A) → AllByRecursion P xs → P y
    → AllByRecursion P (slice_set xs i y)
set_each P [] i y all is = tt
set_each P (z ∷ xs) zero y all is = (is, all.1)
set_each P (z ∷ xs) (suc i) y all is = (all.0, set_each P xs i y all.1 is)

-- what holds at each place holds of all
pub all_places : {A : Type 0} (P : A → Type 0) (xs : List A) → ((i : ℕ) (x : A) → slice_get xs i ≡ Some x → P x)
    → AllByRecursion P xs
all_places P [] each = tt
all_places P (x ∷ xs) each = (each 0 x refl, all_places P xs (λ i. each (suc i)))

pub head_front : (xs ys : List ℕ) → 0 < length xs → head_or_zero (xs ++ ys) ≡ head_or_zero xs
head_front [] ys some = absurd (omega arith)
head_front (x ∷ xs) ys some = refl

pub none_mapped : {A B : Type 0} (f : A → B) (o : Option A) → option_map f o ≡ None → o ≡ None
none_mapped f None e = refl
none_mapped f (Some x) e = absurd (some_none e)
