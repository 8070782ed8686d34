-- Lists of anything, of blocks and of words.
use Rattle.std.proofs.Common.{◌≡◌, ℕ, suc, ◌<◌, List, [], ◌∷◌, ◌++◌, length, flat_map, refl, sym, subst, ◌∙◌, arith}
use Rattle.std.proofs.Common.{append_assoc, ap}
use Rattle.std.specs.List.{AllByRecursion}
use Rattle.std.proofs.lemmas.Bool.{eq-eqb}
use Rattle.spec_image.specs.Maps.{times}

pub same_head : {A : Type 0} {x y : A} {xs ys : List A} → x ∷ xs ≡ y ∷ ys → x ≡ y
same_head {A} {x} {y} {xs} {ys} e = ap (first x) e
  where
    first : A → List A → A
    first d [] = d
    first d (z ∷ zs) = z

pub same_tail : {A : Type 0} {x y : A} {xs ys : List A} → x ∷ xs ≡ y ∷ ys → xs ≡ ys
same_tail e = ap rest e
  where
    rest : {A : Type 0} → List A → List A
    rest [] = []
    rest (z ∷ zs) = zs

pub all_append : {X : Type 0} (P : X → Type 0) (xs ys : List X) → AllByRecursion P xs → AllByRecursion P ys
    → AllByRecursion P (xs ++ ys)
all_append P [] ys a b = b
all_append P (x ∷ xs) ys a b = (a.0, all_append P xs ys a.1 b)

pub all_left : {X : Type 0} (P : X → Type 0) (xs ys : List X) → AllByRecursion P (xs ++ ys) → AllByRecursion P xs
all_left P [] ys a = tt
all_left P (x ∷ xs) ys a = (a.0, all_left P xs ys a.1)

pub all_right : {X : Type 0} (P : X → Type 0) (xs ys : List X) → AllByRecursion P (xs ++ ys) → AllByRecursion P ys
all_right P [] ys a = a
all_right P (x ∷ xs) ys a = all_right P xs ys a.1

pub times-cons : (n : ℕ) (ns : List ℕ) → times n (n ∷ ns) ≡ suc (times n ns)
times-cons n ns = let e = eq-eqb n n refl in rw e (omega arith)

pub times_here : (n : ℕ) (ns : List ℕ) → 0 < times n (n ∷ ns)
times_here n ns = omega (arith, times-cons n ns)

pub times_later : (n m : ℕ) (ns : List ℕ) → 0 < times n ns → 0 < times n (m ∷ ns)
times_later n m ns h = omega arith

-- 0 can't be first if it isn't in the list
pub not_first : (n : ℕ) (ns : List ℕ) → 0 ≡ n → times 0 (n ∷ ns) ≡ 0 → ⊥
not_first n ns e h = let p : 0 < times 0 (n ∷ ns) = subst (λ m. 0 < times 0 (m ∷ ns)) e (times_here 0 ns) in omega arith

-- what is in front and what is after it, if the fronts have one length
pub front_same : {A : Type 0} (xs ys us vs : List A) → length xs ≡ length ys → xs ++ us ≡ ys ++ vs
    → (xs ≡ ys) × (us ≡ vs)
front_same [] [] us vs n e = (refl, e)
front_same [] (y ∷ ys) us vs n e = absurd (omega arith)
front_same (x ∷ xs) [] us vs n e = absurd (omega arith)
front_same (x ∷ xs) (y ∷ ys) us vs n e =
    let tails : xs ++ us ≡ ys ++ vs = cc in
    let heads : x ≡ y = cc in
    let rest = front_same xs ys us vs (omega arith) tails in
    let same : xs ≡ ys = rest.0 in
    (cc, rest.1)

-- An encoding of items by three words each that distinguishes them.
pub record TellsApart {E : Type 0} (words : E → List ℕ) : Type 0 where
  pub three : (e : E) → length (words e) ≡ 3
  pub same : (e f : E) → words e ≡ words f → e ≡ f

pub flat_same : {E : Type 0} (words : E → List ℕ) → TellsApart words → (es fs : List E) (x y : List ℕ)
    → length es ≡ length fs → flat_map words es ++ x ≡ flat_map words fs ++ y → es ≡ fs
flat_same words a [] [] x y n e = refl
flat_same words a [] (f ∷ fs) x y n e = absurd (omega arith)
flat_same words a (d ∷ es) [] x y n e = absurd (omega arith)
flat_same words a (d ∷ es) (f ∷ fs) x y n e =
    let parts = front_same (words d) (words f) (flat_map words es ++ x) (flat_map words fs ++ y) (a.three d
    ∙ sym (a.three f)) (sym (append_assoc (words d) (flat_map words es) x) ∙ e
    ∙ append_assoc (words f) (flat_map words fs) y) in
    let head : d ≡ f = a.same d f parts.0 in
    let rest : es ≡ fs = flat_same words a es fs x y (omega arith) parts.1 in
    cc
