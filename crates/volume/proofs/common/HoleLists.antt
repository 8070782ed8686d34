-- Lists without the element at one place, into which the last one moves.
use Rattle.std.proofs.Common.{◌≡◌, ℕ, zero, suc, ◌+◌, ◌-◌, ◌<◌, ◌⊎◌, inl, inr, cond, Bool, true, false, List, [], ◌∷◌}
use Rattle.std.proofs.Common.{◌++◌, map, length, take, drop, slice_get, Option, Some, None, refl, sym, ap, ◌∙◌, arith}
use Rattle.std.proofs.Common.{length-append}
use Rattle.std.proofs.lemmas.Option.{slice_get_within}
use Rattle.std.specs.Ordering.{eq_by_cmp}
use Rattle.std.specs.FinMap.Entries.{find}
use Rattle.words36.specs.declared.names.FileName.{FileName}
use Rattle.spec_image.specs.Common.{SpecFileEntry, name_cmp, total, times}
use Rattle.spec_image.proofs.Common.{has_last, some_same, some_none, at_itself, name_total}
use Rattle.directory.specs.Common.{StandsAt, removed, last_first}
use Rattle.volume.specs.Common.{CurrentVersion, blocks_reached, reaches_in_entries}
use Rattle.volume.proofs.common.Lookups.{total-push}
use Rattle.volume.proofs.common.ReachedBlocks.{entries_push}

-- The last element moves to the front.

drop_front : {X : Type 0} (xs ys : List X) → drop (length xs) (xs ++ ys) ≡ ys
drop_front [] ys = refl
drop_front (x ∷ xs) ys = drop_front xs ys

take_front : {X : Type 0} (xs ys : List X) → take (length xs) (xs ++ ys) ≡ xs
take_front [] ys = refl
take_front (x ∷ xs) ys = ap (λ zs. x ∷ zs) (take_front xs ys)

moved_end : {X : Type 0} (xs : List X) (x : X) → last_first (xs ++ x ∷ []) ≡ x ∷ xs
moved_end xs x =
    let many = length-append xs (x ∷ []) in
    let less : length (xs ++ x ∷ []) - 1 ≡ length xs = omega arith in
    let back : drop (length xs) (xs ++ x ∷ []) ≡ x ∷ [] = drop_front xs (x ∷ []) in
    let front : take (length xs) (xs ++ x ∷ []) ≡ xs = take_front xs (x ∷ []) in
    (λ j. drop (less j) (xs ++ x ∷ []) ++ take (less j) (xs ++ x ∷ [])) ∙ (λ j. back j ++ front j)

pub moved_is : {X : Type 0} (x : X) (xs : List X) → last_first (x ∷ xs) ≡ (has_last x xs).last ∷ (has_last x xs).front
moved_is x xs = let e = has_last x xs in ap (λ zs. last_first zs) e.is ∙ moved_end e.front e.last

map_append : {A B : Type 0} (f : A → B) (xs ys : List A) → map f (xs ++ ys) ≡ map f xs ++ map f ys
map_append f [] ys = refl
map_append f (x ∷ xs) ys = ap (λ zs. f x ∷ zs) (map_append f xs ys)

moved_map : {A B : Type 0} (f : A → B) (xs : List A) → map f (last_first xs) ≡ last_first (map f xs)
moved_map f [] = refl
moved_map f (x ∷ xs) =
    let e = has_last x xs in
    ap (map f) (moved_is x xs) ∙ sym (moved_end (map f e.front) (f e.last))
    ∙ ap (λ zs. last_first zs) (sym (map_append f e.front (e.last ∷ [])) ∙ ap (map f) (sym e.is))

moved_total : {X : Type 0} (f : X → ℕ) (xs : List X) → total f (last_first xs) ≡ total f xs
moved_total f [] = refl
moved_total f (x ∷ xs) =
    let e = has_last x xs in
    let a = ap (total f) (moved_is x xs) in
    let b = ap (total f) e.is ∙ total-push f e.front e.last in
    omega arith

moved_length : {X : Type 0} (xs : List X) → length (last_first xs) ≡ length xs
moved_length [] = refl
moved_length (x ∷ xs) =
    let e = has_last x xs in
    let a = ap (λ zs. length zs) (moved_is x xs) in
    let b = ap (λ zs. length zs) e.is ∙ length-append e.front (e.last ∷ []) in
    omega arith

moved_reaches : (n : ℕ) (es : List SpecFileEntry) (vs : List CurrentVersion) → length vs ≡ length es
    → reaches_in_entries n (last_first es) (last_first vs) ≡ reaches_in_entries n es vs
moved_reaches n [] [] same = refl
moved_reaches n [] (v ∷ vs) same = absurd (omega arith)
moved_reaches n (e ∷ es) [] same = absurd (omega arith)
moved_reaches n (e ∷ es) (v ∷ vs) same =
    let l = has_last e es in
    let k = has_last v vs in
    let many = ap (λ zs. length zs) l.is ∙ length-append l.front (l.last ∷ []) in
    let many' = ap (λ zs. length zs) k.is ∙ length-append k.front (k.last ∷ []) in
    let aligned : length k.front ≡ length l.front = omega arith in
    let now : reaches_in_entries n (last_first (e ∷ es)) (last_first (v ∷ vs))
    ≡ reaches_in_entries n (l.last ∷ l.front) (k.last ∷ k.front) = λ j.
    reaches_in_entries n (moved_is e es j) (moved_is v vs j) in
    let was : reaches_in_entries n (e ∷ es) (v ∷ vs)
    ≡ reaches_in_entries n (l.front ++ l.last ∷ []) (k.front ++ k.last ∷ []) = λ j.
    reaches_in_entries n (l.is j) (k.is j) in
    let push = entries_push n l.front k.front l.last k.last aligned in
    omega arith

-- The list without the element at a place.

abbrev pub hole : {X : Type 0} → ℕ → List X → List X
hole i [] = []
hole zero (x ∷ xs) = last_first xs
hole (suc i) (x ∷ xs) = x ∷ hole i xs

pub hole_is : {X : Type 0} (xs : List X) (i : ℕ) → i < length xs
    → hole i xs ≡ take i xs ++ last_first (drop (suc i) xs)
hole_is [] i below = absurd (omega arith)
hole_is (x ∷ xs) zero below = refl
hole_is (x ∷ xs) (suc i) below = ap (λ zs. x ∷ zs) (hole_is xs i (omega arith))

pub hole_map : {A B : Type 0} (f : A → B) (xs : List A) (i : ℕ) → map f (hole i xs) ≡ hole i (map f xs)
hole_map f [] i = refl
hole_map f (x ∷ xs) zero = moved_map f xs
hole_map f (x ∷ xs) (suc i) = ap (λ zs. f x ∷ zs) (hole_map f xs i)

pub hole_total : {X : Type 0} (f : X → ℕ) (xs : List X) (i : ℕ) (x : X) → slice_get xs i ≡ Some x
    → total f (hole i xs) + f x ≡ total f xs
hole_total f [] i x is = absurd (some_none (sym is))
hole_total f (y ∷ xs) zero x is = let same = ap f (some_same is) in let rest = moved_total f xs in omega arith
hole_total f (y ∷ xs) (suc i) x is = let rest = hole_total f xs i x is in omega arith

pub hole_length : {X : Type 0} (xs : List X) (i : ℕ) → i < length xs → length (hole i xs) + 1 ≡ length xs
hole_length [] i below = absurd (omega arith)
hole_length (x ∷ xs) zero below = let rest = moved_length xs in omega arith
hole_length (x ∷ xs) (suc i) below = let rest = hole_length xs i (omega arith) in omega arith

pub hole_reaches : (n : ℕ) (es : List SpecFileEntry) (vs : List CurrentVersion) (i : ℕ) (e : SpecFileEntry)
    (v : CurrentVersion)
    → length vs ≡ length es → slice_get es i ≡ Some e → slice_get vs i ≡ Some v
    → reaches_in_entries n (hole i es) (hole i vs) + times n (blocks_reached e.1 v.version)
    ≡ reaches_in_entries n es vs
hole_reaches n [] vs i e v same here there = absurd (some_none (sym here))
hole_reaches n (x ∷ es) [] i e v same here there = absurd (some_none (sym there))
hole_reaches n (x ∷ es) (y ∷ vs) zero e v same here there =
    let is : times n (blocks_reached x.1 y.version) ≡ times n (blocks_reached e.1 v.version) = λ k.
    times n (blocks_reached (some_same here k).1 (some_same there k).version) in
    let rest = moved_reaches n es vs (omega arith) in
    omega arith
hole_reaches n (x ∷ es) (y ∷ vs) (suc i) e v same here there =
    let rest = hole_reaches n es vs i e v (omega arith) here there in
    omega arith

-- Where an element of it was: at its place, or last, if it moved.

abbrev pub IsFrom : ℕ → ℕ → ℕ → ℕ → Type 0
IsFrom n i j k = ((j ≡ i) × (k + 1 ≡ n)) ⊎ ((j ≡ i → ⊥) × (k ≡ j))

pub one_from : (n i j k l : ℕ) → IsFrom n i j k → IsFrom n i j l → k ≡ l
one_from n i j k l (inl a) (inl b) = let one = a.1 in let other = b.1 in omega arith
one_from n i j k l (inl a) (inr b) = absurd (b.0 a.0)
one_from n i j k l (inr a) (inl b) = absurd (a.0 b.0)
one_from n i j k l (inr a) (inr b) = a.1 ∙ sym b.1

pub front_at : {X : Type 0} (xs ys : List X) (j : ℕ) (y : X) → slice_get xs j ≡ Some y → slice_get (xs ++ ys) j ≡ Some y
front_at [] ys j y is = absurd (some_none (sym is))
front_at (x ∷ xs) ys zero y is = is
front_at (x ∷ xs) ys (suc j) y is = front_at xs ys j y is

behind_at : {X : Type 0} (xs : List X) (x : X) → slice_get (xs ++ x ∷ []) (length xs) ≡ Some x
behind_at [] x = refl
behind_at (y ∷ xs) x = behind_at xs x

pub hole_at : {X : Type 0} (xs : List X) (i j : ℕ) (y : X) → slice_get (hole i xs) j ≡ Some y
    → (k : ℕ) × IsFrom (length xs) i j k × (slice_get xs k ≡ Some y)
hole_at [] i j y is = absurd (some_none (sym is))
hole_at (x ∷ []) zero j y is = absurd (some_none (sym is))
hole_at (x ∷ z ∷ zs) zero zero y is =
    let e = has_last z zs in
    let same : e.last ≡ y = some_same (ap (λ ws. slice_get ws 0) (sym (moved_is z zs)) ∙ is) in
    let many = ap (λ ws. length ws) e.is ∙ length-append e.front (e.last ∷ []) in (
      suc (length e.front),
      inl (refl, omega arith),
      ap (λ ws. slice_get ws (length e.front)) e.is ∙ behind_at e.front e.last ∙ ap Some same,
    )
hole_at (x ∷ z ∷ zs) zero (suc j) y is =
    let e = has_last z zs in
    let there : slice_get e.front j ≡ Some y = ap (λ ws. slice_get ws (suc j)) (sym (moved_is z zs)) ∙ is in (
      suc j,
      inr (λ same. omega arith, refl),
      ap (λ ws. slice_get ws j) e.is ∙ front_at e.front (e.last ∷ []) j y there,
    )
hole_at (x ∷ xs) (suc i) zero y is = (0, inr (λ same. omega arith, refl), is)
hole_at (x ∷ xs) (suc i) (suc j) y is =
    let r = hole_at xs i j y is in (
      suc r.0,
      by r.0 r.1,
      r.2,
    )
  where
    by : (k : ℕ) → IsFrom (length xs) i j k → IsFrom (suc (length xs)) (suc i) (suc j) (suc k)
    by k (inl a) = inl (ap suc a.0, let last = a.1 in omega arith)
    by k (inr a) = inr (λ same. a.0 (omega arith), ap suc a.1)

-- it was not where the hole was
pub hole_other : {X : Type 0} (xs : List X) (i j k : ℕ) (y : X) → i < length xs → slice_get (hole i xs) j ≡ Some y
    → IsFrom (length xs) i j k → k ≡ i → ⊥
hole_other xs i j k y below is (inl a) same =
    let within = slice_get_within (hole i xs) j y is in
    let many = hole_length xs i below in
    let here = a.0 in
    let last = a.1 in
    absurd (omega arith)
hole_other xs i j k y below is (inr a) same = a.0 (sym a.1 ∙ same)

-- The same by what removes an entry, and by what removes an element.

pub other_key : (b : Bool) (w : ℕ) (x : Option ℕ) → cond b (Some w) x ≡ None → (b ≡ false) × (x ≡ None)
other_key true w x none = absurd (some_none none)
other_key false w x none = (refl, none)

removed_at : (es : List SpecFileEntry) (i : ℕ) (name : FileName) (w : ℕ) → slice_get es i ≡ Some (name, w)
    → find name_cmp name (take i es) ≡ None → removed name_cmp es name ≡ hole i es
removed_at [] i name w is none = refl
removed_at (x ∷ es) zero name w is none =
    let same : x ≡ (name, w) = some_same is in
    ap (λ b. cond b (last_first es) (x ∷ removed name_cmp es name))
    (ap (λ (y : SpecFileEntry). eq_by_cmp name_cmp name y.0) same ∙ at_itself name_total name)
removed_at (x ∷ es) (suc i) name w is none =
    let first = other_key (eq_by_cmp name_cmp name x.0) x.1 (find name_cmp name (take i es)) none in
    ap (λ b. cond b (last_first es) (x ∷ removed name_cmp es name)) first.0
    ∙ ap (λ ys. x ∷ ys) (removed_at es i name w is first.1)

pub removed_is : (es : List SpecFileEntry) (i : ℕ) (name : FileName) (w : ℕ) → StandsAt name_cmp es name w i
    → removed name_cmp es name ≡ hole i es
removed_is es i name w at = removed_at es i name w at.is at.before
