-- Entries in the order of their keys are those of the map.
-- In each section `o` states that the order of the keys is total, and `exact` that only equal keys tie in it.
use Rattle.std.proofs.Common.{◌≡◌, ◌⊎◌, inl, inr, ℕ, zero, suc, ◌+◌, ◌<◌, ◌≤◌, Bool, true, false, ◌&&◌, T, List, []}
use Rattle.std.proofs.Common.{◌∷◌, map, ◌++◌, length, take, get_or, slice_get, Option, Some, None, option_map, refl}
use Rattle.std.proofs.Common.{sym, ap, subst, ◌∙◌, Ordering, arith}
use Rattle.std.proofs.lemmas.List.{take_all, take_more}
use Rattle.std.proofs.lemmas.Option.{slice_get-map, slice_get-get_or}
use Rattle.std.specs.List.{AllByRecursion, AllZip, Contains}
use Rattle.std.specs.Ordering.{is_lt}
use Rattle.std.specs.Cmp.{IsTotalOrder}
use Rattle.std.specs.FinMap.{IsAntisymmetric}
use Rattle.std.specs.FinMap.Entries.{find, is_sorted, below_all}
use Rattle.spec_image.specs.Common.{times, entries, from_entries}
use Rattle.spec_image.proofs.Common.{from_entries_alike, some_same, EachOnce-sorted, entries-from_sorted}
use Rattle.spec_image.proofs.Common.{find-contains, contains-found}
use Rattle.directory.specs.Common.{Precedes, AreRising, IsIndex}
use Rattle.directory.proofs.Orders.{same_or_not, one_other, times_at}
use Rattle.directory.proofs.KeyPlaces.{nowhere_found, rising_inside, inside_seen}

both_hold : (a b : Bool) → T a → T b → T (a && b)
both_hold true b p q = q
both_hold false b p q = p

both : (a b : Bool) → a ≡ true → T b → T (a && b)
both true b p q = q
both false b p q = cc

-- The entries at these places, one by one.
abbrev pub AreAt : {X : Type 0} → List X → List ℕ → List X → Type 0
AreAt items order listed = AllZip (λ p x. slice_get items p ≡ Some x) order listed

-- and as they are seen
pub seen_at : {E X : Type 0} (view : E → X) (es : List E) (order : List ℕ) (listed : List E) → AreAt es order listed
    → AreAt (map view es) order (map view listed)
seen_at view es [] [] at = tt
seen_at view es [] (y ∷ ys) at = absurd at
seen_at view es (p ∷ order) [] at = absurd at
seen_at view es (p ∷ order) (y ∷ ys) at = (
  slice_get-map view es p ∙ ap (option_map view) at.0,
  seen_at view es order ys at.1,
)

at_push : {X : Type 0} (es : List X) (order : List ℕ) (list : List X) (p : ℕ) (x : X) → AreAt es order list
    → slice_get es p ≡ Some x → AreAt es (order ++ p ∷ []) (list ++ x ∷ [])
at_push es [] [] p x at is = (is, tt)
at_push es [] (y ∷ ys) p x at is = absurd at
at_push es (q ∷ order) [] p x at is = absurd at
at_push es (q ∷ order) (y ∷ ys) p x at is = (at.0, at_push es order ys p x at.1 is)

-- one more
pub listed_more : {X : Type 0} (es : List X) (order : List ℕ) (i : ℕ) (x : X) (list new : List X) → i < length order
    → get_or order i 0 < length es → x ≡ get_or es (get_or order i 0) x → AreAt es (take i order) list
    → new ≡ list ++ x ∷ [] → AreAt es (take (i + 1) order) new
listed_more es order i x list new within inside is so_far more =
    subst (AreAt es (take (i + 1) order)) (sym more)
    (subst (λ ps. AreAt es ps (list ++ x ∷ [])) (sym (take_more order i 0 within))
    (at_push es (take i order) list (get_or order i 0) x so_far
    (slice_get-get_or es (get_or order i 0) x inside ∙ ap Some (sym is))))

-- each place of the order is listed at its own
at_each : {X : Type 0} (es : List X) (order : List ℕ) (list : List X) → AreAt es order list → (i : ℕ) (d : X)
    → i < length list → slice_get es (get_or order i 0) ≡ Some (get_or list i d)
at_each es [] [] at i d h = absurd (omega arith)
at_each es [] (y ∷ ys) at i d h = absurd at
at_each es (q ∷ order) [] at i d h = absurd at
at_each es (q ∷ order) (y ∷ ys) at zero d h = at.0
at_each es (q ∷ order) (y ∷ ys) at (suc i) d h = at_each es order ys at.1 i d (omega arith)

-- a place of the order lies in the list
pub place_inside : {E K V : Type 0} (R : K → K → Ordering) (view : E → K × V) (es : List E) (order : List ℕ) (i d : ℕ)
    → IsIndex R (map view es) order → i < length order → get_or order i d < length es
place_inside R view es order i d index within =
    inside_seen view es (get_or order i d) (rising_inside R (map view es) order index.rising (get_or order i d)
    (times_at order i (get_or order i d) (slice_get-get_or order i d within)))

-- what is at a place that occurs is listed
at_contains : {X : Type 0} (items : List X) (order : List ℕ) (listed : List X) → AreAt items order listed → (p : ℕ)
    → 0 < times p order → (x : X) → slice_get items p ≡ Some x → Contains listed x
at_contains items [] [] at p h x is = absurd (omega arith)
at_contains items [] (y ∷ ys) at p h x is = absurd at
at_contains items (q ∷ order) [] at p h x is = absurd at
at_contains items (q ∷ order) (y ∷ ys) at p h x is = step (same_or_not p q)
    (λ k. at_contains items order ys at.1 p k x is)
  where
    step : (p ≡ q) ⊎ (p ≡ q → ⊥) → (0 < times p order → Contains ys x) → Contains (y ∷ ys) x
    step (inl e) rest = (0, omega arith, some_same (sym at.0 ∙ ap (slice_get items) (sym e) ∙ is))
    step (inr other) rest = let none = one_other p q other in let r = rest (omega arith) in
        (suc r.0, (let h = r.1 in omega arith), r.2)

module _ {K X : Type 0} (R : K → K → Ordering) (items : List (K × X)) where
  below_at : (p : ℕ) (y : K × X) (order : List ℕ) (listed : List (K × X)) → slice_get items p ≡ Some y
      → AllByRecursion (Precedes R items p) order → AreAt items order listed → T (below_all R y.0 listed)
  below_at p y [] [] is all at = tt
  below_at p y [] (z ∷ zs) is all at = absurd at
  below_at p y (q ∷ order) [] is all at = absurd at
  below_at p y (q ∷ order) (z ∷ zs) is all at =
      both (is_lt (R y.0 z.0)) (below_all R y.0 zs) (ap is_lt (all.0 y z is at.0)) (below_at p y order zs is all.1 at.1)

  -- places in ascending key order list the entries in that order
  sorted_at : (order : List ℕ) (listed : List (K × X)) → AreRising R items order → AreAt items order listed
      → T (is_sorted R listed)
  sorted_at [] [] rising at = tt
  sorted_at [] (y ∷ ys) rising at = absurd at
  sorted_at (p ∷ order) [] rising at = absurd at
  sorted_at (p ∷ order) (y ∷ ys) rising at =
      both_hold (below_all R y.0 ys) (is_sorted R ys) (below_at p y order ys at.0 rising.1 at.1)
      (sorted_at order ys rising.2 at.1)

module _ {K X : Type 0} {R : K → K → Ordering} (o : IsTotalOrder R) (exact : IsAntisymmetric R) where
  module _ (items : List (K × X)) (order : List ℕ) (index : IsIndex R items order) (listed : List (K × X))
      (at : AreAt items order listed) where
    rising : T (is_sorted R listed)
    rising = sorted_at R items order listed index.rising at

    -- what is found among the entries is found in the list
    found_listed : (q : K) (x : X) → find R q items ≡ Some x → find R q listed ≡ Some x
    found_listed q x is =
        let c = contains-found o exact items q x is in
        let place : slice_get items c.0 ≡ Some (q, x) = slice_get-get_or items c.0 (q, x) c.1 ∙ ap Some c.2 in
        let once = index.inside c.0 c.1 in
        find-contains o listed q x (EachOnce-sorted R listed rising)
        (at_contains items order listed at c.0 (omega arith) (q, x) place)

    -- and what isn't found there isn't found in it
    listed_nowhere : (q : K) (x : X) → find R q items ≡ None → find R q listed ≡ Some x → ⊥
    listed_nowhere q x none is =
        let c = contains-found o exact listed q x is in
        nowhere_found o exact items q none (get_or order c.0 0)
        (x, at_each items order listed at c.0 (q, x) c.1 ∙ ap Some c.2)

    alike : (q : K) → find R q items ≡ find R q listed
    alike q = step (find R q items) refl (find R q listed) refl
      where
        step : (a : Option X) → find R q items ≡ a → (b : Option X) → find R q listed ≡ b → find R q items
            ≡ find R q listed
        step (Some x) e b f = e ∙ sym (found_listed q x e)
        step None e None f = e ∙ sym f
        step None e (Some x) f = absurd (listed_nowhere q x e f)

    listed_all : listed ≡ entries (from_entries {R = R} items)
    listed_all = sym (ap entries (from_entries_alike o exact items listed alike) ∙ entries-from_sorted o listed rising)

  -- entries that were listed place by place are those of the map
  pub listed : {E : Type 0} (view : E → K × X) (es : List E) (order : List ℕ) (fs : List E)
      → IsIndex R (map view es) order → AreAt es order fs → map view fs ≡ entries (from_entries {R = R} (map view es))
  listed view es order fs index at =
      listed_all (map view es) order index (map view fs) (seen_at view es order fs at)

  -- all of them, after the loop
  pub listed_whole : {E : Type 0} (view : E → K × X) (es seen : List E) (order : List ℕ) (i : ℕ) (fs : List E)
      → IsIndex R (map view es) order → seen ≡ es → length order ≤ i → AreAt seen (take i order) fs
      → map view fs ≡ entries (from_entries {R = R} (map view es))
  listed_whole view es seen order i fs index same end at =
      listed view es order fs index
      (subst (λ ps. AreAt es ps fs) (take_all i order end) (subst (λ xs. AreAt xs (take i order) fs) same at))
