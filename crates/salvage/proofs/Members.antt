-- What is in a list of files or findings.
use Rattle.std.proofs.Common.{◌≡◌, ◌⊎◌, inl, inr, ⊎_elim, ℕ, zero, suc, ◌<◌, List, [], ◌∷◌, ◌++◌, length}
use Rattle.std.proofs.Common.{Contains, slice_index_or, map, refl, sym, ap, subst, arith, append-nil}
use Rattle.std.specs.List.{AllByRecursion}
use Rattle.directory.proofs.GatheredEntries.{all_of}
use Rattle.salvage.specs.declared.saved.SavedFile.{SavedFile}

pub contains_here : {X : Type 0} (x : X) (xs : List X) → Contains (x ∷ xs) x
contains_here x xs = (0, omega arith, refl)

pub contains_later : {X : Type 0} (x y : X) (xs : List X) → Contains xs y → Contains (x ∷ xs) y
contains_later x y xs there = (suc there.0, omega (arith, there.1), there.2)

pub contains_first : {X : Type 0} (x y : X) (xs : List X) → Contains (x ∷ xs) y → (x ≡ y) ⊎ Contains xs y
contains_first x y xs there = at there.0 there.1 there.2
  where
    at : (k : ℕ) → k < length (x ∷ xs) → slice_index_or (x ∷ xs) k y ≡ y → (x ≡ y) ⊎ Contains xs y
    at zero below is = inl is
    at (suc k) below is = inr (k, omega arith, is)

pub contains_none : {X : Type 0} (y : X) → Contains [] y → ⊥
contains_none y there = let below = there.1 in omega arith

pub contains_left : {X : Type 0} (y : X) (xs ys : List X) → Contains xs y → Contains (xs ++ ys) y
contains_left y [] ys there = absurd (contains_none y there)
contains_left y (x ∷ xs) ys there = ⊎_elim
    (λ is. subst (λ z. Contains (x ∷ (xs ++ ys)) z) is (contains_here x (xs ++ ys)))
    (λ later. contains_later x y (xs ++ ys) (contains_left y xs ys later)) (contains_first x y xs there)

pub contains_right : {X : Type 0} (y : X) (xs ys : List X) → Contains ys y → Contains (xs ++ ys) y
contains_right y [] ys there = there
contains_right y (x ∷ xs) ys there = contains_later x y (xs ++ ys) (contains_right y xs ys there)

-- each element is in its list
pub each_contained : {X : Type 0} (xs : List X) → AllByRecursion (Contains xs) xs
each_contained [] = tt
each_contained (x ∷ xs) = (
  contains_here x xs,
  all_of (Contains xs) (Contains (x ∷ xs)) xs
      (λ y there. contains_later x y xs there) (each_contained xs),
)

pub all_both : {X : Type 0} (P Q : X → Type 0) (xs : List X) → AllByRecursion P xs → AllByRecursion Q xs
    → AllByRecursion (λ x. P x × Q x) xs
all_both P Q [] first second = tt
all_both P Q (x ∷ xs) first second = ((first.0, second.0), all_both P Q xs first.1 second.1)

pub all_three : {X : Type 0} (P Q R : X → Type 0) (xs : List X) → AllByRecursion P xs → AllByRecursion Q xs
    → AllByRecursion R xs → AllByRecursion (λ x. P x × Q x × R x) xs
all_three P Q R [] first second third = tt
all_three P Q R (x ∷ xs) first second third =
    ((first.0, second.0, third.0), all_three P Q R xs first.1 second.1 third.1)

pub nothing_behind : {X : Type 0} (xs : List X) → xs ≡ xs ++ []
nothing_behind xs = sym (append-nil xs)

-- The prime blocks of files.

pub map_behind : (xs ys : List SavedFile) → map (λ (file : SavedFile). file.at) (xs ++ ys)
    ≡ map (λ (file : SavedFile). file.at) xs ++ map (λ (file : SavedFile). file.at) ys
map_behind [] ys = refl
map_behind (x ∷ xs) ys = ap (λ (ns : List ℕ). x.at ∷ ns) (map_behind xs ys)
