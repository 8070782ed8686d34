-- Streams that lead to no file of some words.
use Rattle.std.proofs.Common.{◌≡◌, ◌⊎◌, ◌<◌, ◌≤◌, ◌+◌, ◌++◌, inl, inr, ℕ, zero, suc, List, [], ◌∷◌, Bool, true, false}
use Rattle.std.proofs.Common.{Option, IsTrue, IsFalse, All, map, take, length, get_or, subst, sym, ap, refl, arith}
use Rattle.std.specs.Prelude.{Any}
use Rattle.std.proofs.lemmas.List.Quantifiers.{Any-push}
use Rattle.std.proofs.lemmas.List.{take_all, take_more}
use Rattle.std.proofs.lemmas.List.Elements.{All-map, All-push}
use Rattle.filser.specs.Common.{HostFacts, SparesNamed, SparesOutput}

-- what holds of the names so far holds of these and the next one
pub named_more : {X : Type 0} (P : X → Type 0) (xs : List X) (i : ℕ) (d : X) → i < length xs → All P (take i xs)
    → P (get_or xs i d) → All P (take (i + 1) xs)
named_more P xs i d below all one =
    subst (All P) (sym (take_more xs i d below)) (All-push P (take i xs) (get_or xs i d) all one)

-- and of all of them in the end
pub named_all : {X Y : Type 0} (P : Y → Type 0) (f : X → Y) (xs : List X) (i : ℕ) → length xs ≤ i
    → All (λ x. P (f x)) (take i xs) → All P (map f xs)
named_all P f xs i past all = All-map P f xs (subst (All (λ x. P (f x))) (take_all i xs past) all)

-- one of some names is one of more
any_left : {X : Type 0} (P : X → Type 0) (xs ys : List X) → Any P xs → Any P (xs ++ ys)
any_left P [] ys any = let below = any.2 in absurd (omega arith)
any_left P (x ∷ xs) ys (zero, y, below, is, p) = (zero, y, omega arith, is, p)
any_left P (x ∷ xs) ys (suc k, y, below, is, p) =
    let r = any_left P xs ys (k, y, omega arith, is, p) in
    let within = r.2 in (suc r.0, r.1, omega arith, r.3, r.4)

-- one of the names so far, or the next one, is one of all of these
pub barred_more : {X : Type 0} (P : X → Type 0) (xs : List X) (i : ℕ) (d : X) → i < length xs
    → Any P (take i xs) ⊎ P (get_or xs i d) → Any P (take (i + 1) xs)
barred_more P xs i d below (inl any) =
    subst (Any P) (sym (take_more xs i d below)) (any_left P (take i xs) (get_or xs i d ∷ []) any)
barred_more P xs i d below (inr here) =
    subst (Any P) (sym (take_more xs i d below)) (Any-push P (take i xs) (get_or xs i d) here)

any_map : {X Y : Type 0} (P : Y → Type 0) (f : X → Y) (xs : List X) → Any (λ x. P (f x)) xs → Any P (map f xs)
any_map P f [] any = let below = any.2 in absurd (omega arith)
any_map P f (x ∷ xs) (zero, y, below, is, p) = (zero, f y, omega arith, ap f is, p)
any_map P f (x ∷ xs) (suc k, y, below, is, p) =
    let r = any_map P f xs (k, y, omega arith, is, p) in
    let within = r.2 in (suc r.0, r.1, omega arith, r.3, r.4)

-- and one of all of them in the end
pub barred_all : {X Y : Type 0} (P : Y → Type 0) (f : X → Y) (xs : List X) (i : ℕ) → length xs ≤ i
    → Any (λ x. P (f x)) (take i xs) → Any P (map f xs)
barred_all P f xs i past any = any_map P f xs (subst (Any (λ x. P (f x))) (take_all i xs past) any)

-- nothing was printed, since the output isn't free, or it is
pub spares_named : {F : Type 0} (facts : HostFacts F) (names : List (List ℕ)) (sink full : Option (List ℕ))
    (free : Bool) → (IsFalse free → full ≡ sink) → (IsTrue free → All (SparesOutput facts) names)
    → SparesNamed facts names sink full
spares_named facts names sink full true kept spared = inr (spared refl)
spares_named facts names sink full false kept spared = inl (kept refl)
