-- Places in ascending key order: what a search in them finds, and how they stay in step with the entries.
-- In each section `o` states that the order of the keys is total, and `exact` that only equal keys tie in it.
use Rattle.std.proofs.Common.{◌≡◌, ◌⊎◌, inl, inr, ℕ, zero, suc, ◌+◌, ◌-◌, ◌<◌, ◌≤◌, List, [], ◌∷◌, ◌++◌, length, take}
use Rattle.std.proofs.Common.{drop, map, get_or, slice_set, slice_get, swap_remove, Option, Some, None, refl, sym, ap}
use Rattle.std.proofs.Common.{subst, ◌∙◌, Bool, true, false, cond, Ordering, Less, Equal, Greater, arith}
use Rattle.std.proofs.Common.{length-append, Result, Ok, Err, IfOk, IfErr}
use Rattle.std.proofs.lemmas.List.{length-map, map_push, get_or-map, take-map, map-set, length-set, length-take-le}
use Rattle.std.proofs.lemmas.List.{get_or-take, get_or-drop, length-drop}
use Rattle.std.proofs.lemmas.List.Elements.{recursion_from_All}
use Rattle.std.proofs.lemmas.Option.{slice_get_within, slice_get-get_or, get_or_from_slice_get}
use Rattle.std.specs.List.{AllByRecursion, HoldsAt}
use Rattle.std.specs.List.Sorted.{IsNonDecreasingBy, IsPartitionPoint, IsSearchInRange, IsBinarySearchResult}
use Rattle.std.specs.Ordering.{eq_by_cmp, is_eq, ordering_index, ordering_reverse}
use Rattle.std.specs.Cmp.{IsTotalOrder, Equal-is, tied_itself}
use Rattle.std.specs.FinMap.{IsAntisymmetric}
use Rattle.std.specs.FinMap.Entries.{find}
use Rattle.spec_image.specs.Common.{times}
use Rattle.spec_image.proofs.Common.{times_here, times_later, some_none, some_same, all_append}
use Rattle.directory.specs.Common.{StandsAt, order_to, HasKeyAt, Precedes, AreRising, Compares, IsGap, IsInserted}
use Rattle.directory.specs.Common.{IsIndex, IsLeft}
use Rattle.directory.proofs.FoundEntries.{find_at}
use Rattle.directory.proofs.Orders.{one, one_same, one_other, same_or_not, strict, all_in, all_at, all_take, all_drop}
use Rattle.directory.proofs.Orders.{times_left, length_left, length_entered, times_entered, times_parts, times_at}
use Rattle.directory.proofs.Orders.{get_within, get-take, taken, get-set_same, get-set_other, get-push, get-push_last}

pub less_or_equal : Less ≡ Equal → ⊥
less_or_equal e = cc

greater_or_equal : Greater ≡ Equal → ⊥
greater_or_equal e = cc

-- Places that rise, in an order of them.

module _ {K V : Type 0} (R : K → K → Ordering) where
  pub rising_inside : (items : List (K × V)) (order : List ℕ) → AreRising R items order → (p : ℕ) → 0 < times p order
      → p < length items
  rising_inside items [] rising p h = absurd (omega arith)
  rising_inside items (q ∷ order) rising p h = step (same_or_not p q) (rising_inside items order rising.2 p)
    where
      step : (p ≡ q) ⊎ (p ≡ q → ⊥) → (0 < times p order → p < length items) → p < length items
      step (inl e) rest = subst (λ x. x < length items) (sym e) rising.0
      step (inr other) rest = let none = one_other p q other in rest (omega arith)

  -- they rise as long as the entries there stay
  pub rising_kept : (items new : List (K × V)) (order : List ℕ) → ((p : ℕ) → 0 < times p order → (p < length new)
      × (slice_get new p ≡ slice_get items p)) → AreRising R items order → AreRising R new order
  rising_kept items new [] kept rising = tt
  rising_kept items new (q ∷ order) kept rising = (
    (kept q (times_here q order)).0,
    all_in (Precedes R items q) (Precedes R new q) order
        (λ p h was x y at at'. was x y (sym (kept q (times_here q order)).1 ∙ at)
        (sym (kept p (times_later p q order h)).1 ∙ at')) rising.1,
    rising_kept items new order (λ p h. kept p (times_later p q order h)) rising.2,
  )

  pub rising_left : (items : List (K × V)) (order : List ℕ) (i : ℕ) → AreRising R items order
      → AreRising R items (take i order ++ drop (suc i) order)
  rising_left items [] zero rising = tt
  rising_left items [] (suc i) rising = tt
  rising_left items (q ∷ order) zero rising = rising.2
  rising_left items (q ∷ order) (suc i) rising = (
    rising.0,
    all_append (Precedes R items q) (take i order) (drop (suc i) order)
        (all_take (Precedes R items q) i order rising.1) (all_drop (Precedes R items q) (suc i) order rising.1),
    rising_left items order i rising.2,
  )

  pub gap_kept : (items new : List (K × V)) (order : List ℕ) (k : K) (i : ℕ) → ((p : ℕ) → 0 < times p order
      → slice_get new p ≡ slice_get items p) → IsGap R items k order i → IsGap R new k order i
  gap_kept items new order k i kept gap = record {
    within = gap.within;
    low = all_in (Compares R items k Less) (Compares R new k Less) (take i order)
        (λ p h was x at. was x (sym (kept p (let e = times_parts order i p in omega arith)) ∙ at)) gap.low;
    high = all_in (Compares R items k Greater) (Compares R new k Greater) (drop i order)
        (λ p h was x at. was x (sym (kept p (let e = times_parts order i p in omega arith)) ∙ at)) gap.high;
  }

module _ {K : Type 0} {R : K → K → Ordering} (o : IsTotalOrder R) where
  turned : (x k : K) → R x k ≡ Greater → R k x ≡ Less
  turned x k e = o.antisymm k x ∙ ap ordering_reverse e

module _ {K V : Type 0} {R : K → K → Ordering} (o : IsTotalOrder R) where
  -- a place comes in where its key belongs
  pub rising_entered : (items : List (K × V)) (order : List ℕ) (i p : ℕ) (e : K × V) → p < length items
      → slice_get items p ≡ Some e → AllByRecursion (Compares R items e.0 Less) (take i order)
      → AllByRecursion (Compares R items e.0 Greater) (drop i order) → AreRising R items order
      → AreRising R items (take i order ++ p ∷ drop i order)
  rising_entered items order zero p e within is low high rising = (
    within,
    all_in (Compares R items e.0 Greater) (Precedes R items p) order
        (λ q h above x y at at'. let same : e ≡ x = some_same (sym is ∙ at) in
        (λ j. R (sym same j).0 y.0) ∙ turned o y.0 e.0 (above y at')) high,
    rising,
  )
  rising_entered items [] (suc i) p e within is low high rising = (within, tt, tt)
  rising_entered items (q ∷ order) (suc i) p e within is low high rising = (
    rising.0,
    all_append (Precedes R items q) (take i order) (p ∷ drop i order)
        (all_take (Precedes R items q) i order rising.1) (
          (λ x y at at'. let same : e ≡ y = some_same (sym is ∙ at') in
              (λ j. R x.0 (sym same j).0) ∙ low.0 x at),
          all_drop (Precedes R items q) i order rising.1,
        ),
    rising_entered items order i p e within is low.1 high rising.2,
  )

  -- two places with one key are the same
  pub same_place : (items : List (K × V)) (order : List ℕ) → AreRising R items order → (p q : ℕ) → 0 < times p order
      → 0 < times q order → (x y : K × V) → slice_get items p ≡ Some x → slice_get items q ≡ Some y → x.0 ≡ y.0
      → p ≡ q
  same_place items [] rising p q hp hq x y at at' key = absurd (omega arith)
  same_place items (r ∷ order) rising p q hp hq x y at at' key = step (same_or_not p r) (same_or_not q r)
      (λ a b. same_place items order rising.2 p q a b x y at at' key)
    where
      equal : R x.0 y.0 ≡ Equal
      equal = ap (λ k. R k y.0) key ∙ tied_itself o y.0

      back : R y.0 x.0 ≡ Equal
      back = ap (R y.0) key ∙ tied_itself o y.0

      step : (p ≡ r) ⊎ (p ≡ r → ⊥) → (q ≡ r) ⊎ (q ≡ r → ⊥)
          → (0 < times p order → 0 < times q order → p ≡ q) → p ≡ q
      step (inl e) (inl f) rest = e ∙ sym f
      step (inl e) (inr f) rest =
          let none = one_other q r f in
          let less : R x.0 y.0 ≡ Less = all_at (Precedes R items r) order rising.1 q (omega arith) x y
          (ap (slice_get items) (sym e) ∙ at) at' in
          absurd (less_or_equal (sym less ∙ equal))
      step (inr e) (inl f) rest =
          let none = one_other p r e in
          let less : R y.0 x.0 ≡ Less = all_at (Precedes R items r) order rising.1 p (omega arith) y x
          (ap (slice_get items) (sym f) ∙ at') at in
          absurd (less_or_equal (sym less ∙ back))
      step (inr e) (inr f) rest =
          let none = one_other p r e in
          let none' = one_other q r f in
          rest (omega arith) (omega arith)

-- What a search finds.

ranked : (r : Ordering) → ordering_index r ≤ 2
ranked Less = omega arith
ranked Equal = omega arith
ranked Greater = omega arith

module _ {K : Type 0} {R : K → K → Ordering} (o : IsTotalOrder R) (exact : IsAntisymmetric R) where
  -- what is below another compares with a third no higher than that does
  below : (x y k : K) → R x y ≡ Less → ordering_index (R x k) ≤ ordering_index (R y k)
  below x y k less = step (R y k) refl
    where
      step : (r : Ordering) → R y k ≡ r → ordering_index (R x k) ≤ ordering_index r
      step Less e = let f : ordering_index (R x k) ≡ 0 = ap ordering_index (o.trans x y k less e) in omega arith
      step Equal e = let f : ordering_index (R x k) ≡ 0 = ap ordering_index (ap (R x) (sym (exact y k e)) ∙ less) in
          omega arith
      step Greater e = ranked (R x k)

module _ {K V : Type 0} {R : K → K → Ordering} (o : IsTotalOrder R) (exact : IsAntisymmetric R) where
  pub searchable : (items : List (K × V)) (k : K) (order : List ℕ) → AreRising R items order
      → IsNonDecreasingBy (λ p. ordering_index (order_to R k (slice_get items p))) order
  searchable items k [] rising i j d h within = absurd (omega arith)
  searchable items k (q ∷ order) rising zero zero d h within = omega arith
  searchable items k (q ∷ order) rising zero (suc j) d h within =
      let p = get_or order j d in
      let inside : j < length order = omega arith in
      let there = times_at order j p (slice_get-get_or order j d inside) in
      let x = get_within items q rising.0 in
      let y = get_within items p (rising_inside R items order rising.2 p there) in
      subst (λ (e : Option (K × V)). ordering_index (order_to R k e)
      ≤ ordering_index (order_to R k (slice_get items p))) (sym x.1)
      (subst (λ (e : Option (K × V)). ordering_index (R x.0.0 k) ≤ ordering_index (order_to R k e)) (sym y.1)
      (below o exact x.0.0 y.0.0 k
      (all_at (Precedes R items q) order rising.1 p there x.0 y.0 x.1 y.1)))
  searchable items k (q ∷ order) rising (suc i) zero d h within = absurd (omega arith)
  searchable items k (q ∷ order) rising (suc i) (suc j) d h within =
      searchable items k order rising.2 i j d (omega arith) (omega arith)

  pub gap_found : (items : List (K × V)) (k : K) (order : List ℕ) (i : ℕ) → i ≤ length order
      → IsPartitionPoint (λ p. order_to R k (slice_get items p) ≡ Less)
      (λ p. order_to R k (slice_get items p) ≡ Greater) order i → IsGap R items k order i
  gap_found items k order i within parts = record {
    within = within;
    low = recursion_from_All (Compares R items k Less) (take i order)
        (λ j d h x at. let few = length-take-le i order within in
        let place = get_or-take i order j d (omega arith) in
        ap (order_to R k) (sym at) ∙ (λ t. order_to R k (slice_get items (place t)))
        ∙ parts.0 j d (omega arith) (omega arith));
    high = recursion_from_All (Compares R items k Greater) (drop i order)
        (λ j d h x at. let rest = length-drop i order in
        let place = get_or-drop i order j d in
        ap (order_to R k) (sym at) ∙ (λ t. order_to R k (slice_get items (place t)))
        ∙ parts.1 (i + j) d (omega arith) (omega arith));
  }

  key_of : (k : K) (e : Option (K × V)) → order_to R k e ≡ Equal → (v : V) × (e ≡ Some (k, v))
  key_of k None tie = absurd (less_or_equal tie)
  key_of k (Some e) tie = (e.1, λ j. Some (exact e.0 k tie j, e.1))

  pub place_found : (items : List (K × V)) (k : K) (order : List ℕ) (i : ℕ) → i < length order
      → HoldsAt (λ p. order_to R k (slice_get items p) ≡ Equal) order i
      → (p : ℕ) × (slice_get order i ≡ Some p) × HasKeyAt R items k p
  place_found items k order i within tie =
      let there = get_within order i within in
      let p = get_or order i 0 in
      (p, slice_get-get_or order i 0 within, key_of k (slice_get items p) (tie 0))

  -- what the result of a binary search means
  pub search_found : (items : List (K × V)) (k : K) (order : List ℕ) (r : Result ℕ ℕ)
      → IsSearchInRange r (length order)
      → IsBinarySearchResult (λ p. order_to R k (slice_get items p)) order r
      → IfOk r (λ at. (p : ℕ) × (slice_get order at ≡ Some p) × HasKeyAt R items k p)
  search_found items k order (Ok i) within tie = place_found items k order i within tie
  search_found items k order (Err i) within parts = tt

  pub search_gap : (items : List (K × V)) (k : K) (order : List ℕ) (r : Result ℕ ℕ)
      → IsSearchInRange r (length order) → AreRising R items order
      → IsBinarySearchResult (λ p. order_to R k (slice_get items p)) order r
      → IfErr r (λ at. IsGap R items k order at)
  search_gap items k order (Ok i) within rising tie = tt
  search_gap items k order (Err i) within rising parts =
      gap_found items k order i within (parts (searchable items k order rising))

  -- if no entry has a key, it isn't found
  pub found_nowhere : (items : List (K × V)) (k : K) → ((p : ℕ) → HasKeyAt R items k p → ⊥) → find R k items ≡ None
  found_nowhere [] k none = refl
  found_nowhere (e ∷ items) k none = step (eq_by_cmp R k e.0) refl
      (found_nowhere items k (λ p has. none (suc p) has))
    where
      step : (b : Bool) → eq_by_cmp R k e.0 ≡ b → find R k items ≡ None → cond b (Some e.1) (find R k items) ≡ None
      step true t rest = absurd (none 0 (e.1, λ j. Some (sym (exact k e.0 ((Equal-is (R k e.0)).0 t)) j, e.1)))
      step false t rest = rest

  -- and if it isn't found, none has it
  pub nowhere_found : (items : List (K × V)) (k : K) → find R k items ≡ None → (p : ℕ) → HasKeyAt R items k p → ⊥
  nowhere_found [] k none p has = some_none (sym has.1)
  nowhere_found (e ∷ items) k none zero has = step (eq_by_cmp R k e.0) refl none
    where
      key : k ≡ e.0
      key = ap (λ (x : K × V). x.0) (sym (some_same has.1))

      step : (b : Bool) → eq_by_cmp R k e.0 ≡ b → cond b (Some e.1) (find R k items) ≡ None → ⊥
      step true t n = some_none n
      step false t n = let yes : eq_by_cmp R k e.0 ≡ true = ap is_eq (ap (R k) (sym key) ∙ tied_itself o k) in cc
  nowhere_found (e ∷ items) k none (suc p) has = step (eq_by_cmp R k e.0) none
      (λ n. nowhere_found items k n p has)
    where
      step : (b : Bool) → cond b (Some e.1) (find R k items) ≡ None → (find R k items ≡ None → ⊥) → ⊥
      step true n rest = some_none n
      step false n rest = rest n

  -- a gap means that no place of the order has the key
  pub gap_none : (items : List (K × V)) (k : K) (order : List ℕ) (i : ℕ) → IsGap R items k order i → (p : ℕ)
      → 0 < times p order → HasKeyAt R items k p → ⊥
  gap_none items k order i gap p there has = step (times p (take i order)) refl
    where
      tie : R k k ≡ Equal
      tie = tied_itself o k

      step : (n : ℕ) → times p (take i order) ≡ n → ⊥
      step (suc n) e = less_or_equal (sym (all_at (Compares R items k Less) (take i order) gap.low p (omega arith)
          (k, has.0) has.1) ∙ tie)
      step zero e = let parts = times_parts order i p in
          greater_or_equal (sym (all_at (Compares R items k Greater) (drop i order) gap.high p (omega arith)
          (k, has.0) has.1) ∙ tie)

  module _ (items : List (K × V)) (order : List ℕ) (index : IsIndex R items order) where
    there_once : (p : ℕ) (x : K × V) → slice_get items p ≡ Some x → 0 < times p order
    there_once p x at = let e = index.inside p (slice_get_within items p x at) in omega arith

    pub not_found : (k : K) (i : ℕ) → IsGap R items k order i → find R k items ≡ None
    not_found k i gap = found_nowhere items k (λ p has. gap_none items k order i gap p
        (there_once p (k, has.0) has.1) has)

    pub stands_at : (k : K) (p : ℕ) (v : V) → slice_get items p ≡ Some (k, v) → StandsAt R items k v p
    stands_at k p v is =
        let before : find R k (take p items) ≡ None = found_nowhere (take p items) k
        (λ q has. let at = taken p items q (k, has.0) has.1 in
        let same : q ≡ p = same_place o items order index.rising q p (there_once q (k, has.0) at.1)
        (there_once p (k, v) is) (k, has.0) (k, v) at.1 is refl in
        let h = at.0 in omega arith) in
        record {
          within = slice_get_within items p (k, v) is;
          is = is;
          found = find_at o items p k v is before;
          before = before;
        }

  -- what was found at a place of the order
  pub stands_found : (items : List (K × V)) (order : List ℕ) → IsIndex R items order → (k : K) (i d : ℕ)
      → (p : ℕ) × (slice_get order i ≡ Some p) × HasKeyAt R items k p → (v : V)
      × StandsAt R items k v (get_or order i d)
  stands_found items order index k i d found =
      let has = found.2 in (
        has.0,
        subst (λ p. StandsAt R items k has.0 p) (sym (get_or_from_slice_get order i found.0 d found.1))
            (stands_at items order index k found.0 has.0 has.1),
      )

  pub none_found : (items : List (K × V)) (order : List ℕ) → IsIndex R items order → (k : K) (i : ℕ)
      → IsGap R items k order i → find R k items ≡ None
  none_found items order index k i gap = not_found items order index k i gap

-- The key of an entry in a list, as it is seen.
pub key_at : {E K V : Type 0} (R : K → K → Ordering) (view : E → K × V) (list : List E) (i : ℕ) (e : E) (k : K)
    → i < length list → e ≡ get_or list i e → k ≡ (view e).0 → HasKeyAt R (map view list) k i
key_at R view list i e k within at key =
    let many = length-map list view in (
      (view e).1,
      slice_get-get_or (map view list) i (view e) (omega arith)
          ∙ ap Some (get_or-map view list i e (view e) within ∙ ap view (sym at))
          ∙ (λ j. Some (sym key j, (view e).1)),
    )

pub seen_inside : {E X : Type 0} (view : E → X) (list : List E) (i : ℕ) → i < length list → i < length (map view list)
seen_inside view list i h = let many = length-map list view in omega arith

pub inside_seen : {E X : Type 0} (view : E → X) (list : List E) (i : ℕ) → i < length (map view list) → i < length list
inside_seen view list i h = let many = length-map list view in omega arith

-- a list whose last entry moved to a place, as it is seen
pub seen_swapped : {E X : Type 0} (view : E → X) (list : List E) (i : ℕ) (x : E)
    → map view (swap_remove list i x) ≡ take (length (map view list) - 1)
    (slice_set (map view list) i (view (get_or list (length list - 1) x)))
seen_swapped view list i x =
    sym (take-map view (length list - 1) (slice_set list i (get_or list (length list - 1) x)))
    ∙ (λ j. take (sym (length-map list view) j - 1)
    (map-set view list i (get_or list (length list - 1) x) j))

pub last_seen : {E X : Type 0} (view : E → X) (list : List E) (x : E) → 0 < length list
    → slice_get (map view list) (length (map view list) - 1) ≡ Some (view (get_or list (length list - 1) x))
last_seen view list x some =
    let many = length-map list view in
    slice_get-get_or (map view list) (length (map view list) - 1) (view x) (omega arith)
    ∙ (λ j. Some (get_or (map view list) (many j - 1) (view x)))
    ∙ ap Some (get_or-map view list (length list - 1) x (view x) (omega arith))

-- How the places stay in step.

below_unless : (p n : ℕ) → p < n → (p ≡ n - 1 → ⊥) → p < n - 1
below_unless p n below other = strict p (n - 1) (omega arith) other

past : (p n : ℕ) → n - 1 ≤ p → (p ≡ n - 1 → ⊥) → n ≤ p
past p n low other = let h = strict (n - 1) p low (λ e. other (sym e)) in omega arith

module _ {K V : Type 0} {R : K → K → Ordering} (o : IsTotalOrder R) (exact : IsAntisymmetric R) where
  -- an entry is added after the others
  pub index_pushed : (items : List (K × V)) (e : K × V) (order new : List ℕ) → IsIndex R items order
      → IsInserted R items e.0 (length items) order new → IsIndex R (items ++ e ∷ []) new
  index_pushed items e order new index entered =
      let many = length-append items (e ∷ []) in
      let inside : (p : ℕ) → 0 < times p order → p < length items = rising_inside R items order index.rising in
      let kept : (p : ℕ) → 0 < times p order → slice_get (items ++ e ∷ []) p ≡ slice_get items p =
      λ p h. get-push items e p (inside p h) in
      let gap = gap_kept R items (items ++ e ∷ []) order e.0 entered.at kept entered.gap in
      let rising = rising_kept R items (items ++ e ∷ []) order
      (λ p h. (let b = inside p h in omega arith, kept p h)) index.rising in
      let count : (p : ℕ) → times p new ≡ one p (length items) + times p order =
      λ p. ap (times p) entered.is ∙ times_entered order entered.at (length items) p in
      record {
        rising = subst (AreRising R (items ++ e ∷ [])) (sym entered.is)
            (rising_entered o (items ++ e ∷ []) order entered.at (length items) e (omega arith)
            (get-push_last items e) gap.low gap.high rising);
        inside = λ p h. step p (same_or_not p (length items)) (count p) h;
        outside = λ p h. let c = count p in let other = one_other p (length items) (λ s. omega arith) in
            let none = index.outside p (omega arith) in omega arith;
        counted = let was = index.counted in
            let grown = ap length entered.is ∙ length_entered order entered.at (length items) in omega arith;
      }
    where
      step : (p : ℕ) → (p ≡ length items) ⊎ (p ≡ length items → ⊥)
          → times p new ≡ one p (length items) + times p order → p < length (items ++ e ∷ []) → times p new ≡ 1
      step p (inl same) c h = let s = subst (λ n. one p n ≡ 1) same (one_same p) in
          let none = index.outside p (omega arith) in omega arith
      step p (inr other) c h = let many = length-append items (e ∷ []) in let s = one_other p (length items) other in
          let was = index.inside p (omega arith) in omega arith

  -- the same of a list, as it is seen
  pub pushed_index : {E : Type 0} (view : E → K × V) (list seen : List E) (e : E) (k : K) (n : ℕ)
      (order before new : List ℕ)
      → seen ≡ list → k ≡ (view e).0 → n ≡ length list → before ≡ order → IsIndex R (map view list) order
      → IsInserted R (map view seen) k n before new → (all : List E) → all ≡ list ++ e ∷ []
      → IsIndex R (map view all) new
  pushed_index view list seen e k n order before new same key many was index entered all more =
      let first = subst (λ es. IsInserted R (map view es) k n before new) same entered in
      let second = subst (λ q. IsInserted R (map view list) q n before new) key first in
      let third = subst (λ m. IsInserted R (map view list) (view e).0 m before new)
      (many ∙ sym (length-map list view)) second in
      let fourth = subst (λ ps. IsInserted R (map view list) (view e).0 (length (map view list)) ps new) was third in
      subst (λ es. IsIndex R es new) (sym (ap (map view) more ∙ map_push view list e))
      (index_pushed (map view list) (view e) order new index fourth)

  -- an entry is put in place of another: its place leaves the order and comes in again
  pub index_set : (items : List (K × V)) (i : ℕ) (e : K × V) (order less new : List ℕ) → i < length items
      → IsIndex R items order → IsLeft i order less → IsInserted R items e.0 i less new
      → IsIndex R (slice_set items i e) new
  index_set items i e order less new within index left entered =
      record {
        rising = subst (AreRising R after) (sym entered.is)
            (rising_entered o after less entered.at i e (let m = many in omega arith) (get-set_same items i e within)
            gap.low gap.high rising);
        inside = λ p h. let m = many in let a = back p in let b = index.inside p (omega arith) in omega arith;
        outside = λ p h. let m = many in let a = back p in let b = index.outside p (omega arith) in omega arith;
        counted = let m = many in let was = index.counted in
            let grown = ap length entered.is ∙ length_entered less entered.at i in
            let shrunk : suc (length less) ≡ length order = ap (λ ps. suc (length ps)) left.is
            ∙ length_left order left.at i left.was in omega arith;
      }
    where
      after : List (K × V)
      after = slice_set items i e

      many : length after ≡ length items
      many = length-set items i e

      fewer : (p : ℕ) → times p less + one p i ≡ times p order
      fewer p = ap (λ ps. times p ps + one p i) left.is ∙ times_left order left.at i p left.was

      back : (p : ℕ) → times p new ≡ times p order
      back p = let f = fewer p in
          let c : times p new ≡ one p i + times p less = ap (times p) entered.is ∙ times_entered less entered.at i p in
          omega arith

      gone : (p : ℕ) → 0 < times p less → p ≡ i → ⊥
      gone p h same = let f = fewer p in let s = subst (λ n. one p n ≡ 1) same (one_same p) in
          let once = index.inside p (subst (λ n. n < length items) (sym same) within) in omega arith

      kept : (p : ℕ) → 0 < times p less → slice_get after p ≡ slice_get items p
      kept p h = get-set_other items i e p (gone p h)

      rising_less : AreRising R items less
      rising_less = subst (AreRising R items) (sym left.is) (rising_left R items order left.at index.rising)

      rising : AreRising R after less
      rising = rising_kept R items after less
          (λ p h. (let b = rising_inside R items less rising_less p h in let m = many in omega arith, kept p h))
          rising_less

      gap : IsGap R after e.0 less entered.at
      gap = gap_kept R items after less e.0 entered.at kept entered.gap

  -- if its entry is the last one, a place just leaves
  pub index_shorter : (items : List (K × V)) (i : ℕ) (e : K × V) (order new : List ℕ) → i < length items
      → i ≡ length items - 1 → IsIndex R items order → IsLeft i order new
      → IsIndex R (take (length items - 1) (slice_set items i e)) new
  index_shorter items i e order new within last index left =
      record {
        rising = rising_kept R items after new (λ p h. (
          let b = below_last p h in let m = many in omega arith,
          kept p h,
        ))
            rising_less;
        inside = λ p h. let m = many in let f = fewer p in let was = index.inside p (omega arith) in
            let other = one_other p i (λ s. omega arith) in omega arith;
        outside = λ p h. let m = many in step p (same_or_not p i) (omega arith);
        counted = let m = many in let was = index.counted in
            let shrunk : suc (length new) ≡ length order = ap (λ ps. suc (length ps)) left.is
            ∙ length_left order left.at i left.was in omega arith;
      }
    where
      after : List (K × V)
      after = take (length items - 1) (slice_set items i e)

      many : length after ≡ length items - 1
      many = let m = length-set items i e in length-take-le (length items - 1) (slice_set items i e) (omega arith)

      fewer : (p : ℕ) → times p new + one p i ≡ times p order
      fewer p = ap (λ ps. times p ps + one p i) left.is ∙ times_left order left.at i p left.was

      gone : (p : ℕ) → 0 < times p new → p ≡ i → ⊥
      gone p h same = let f = fewer p in let s = subst (λ n. one p n ≡ 1) same (one_same p) in
          let once = index.inside p (subst (λ n. n < length items) (sym same) within) in omega arith

      rising_less : AreRising R items new
      rising_less = subst (AreRising R items) (sym left.is) (rising_left R items order left.at index.rising)

      below_last : (p : ℕ) → 0 < times p new → p < length items - 1
      below_last p h = below_unless p (length items) (rising_inside R items new rising_less p h)
          (λ s. gone p h (s ∙ sym last))

      kept : (p : ℕ) → 0 < times p new → slice_get after p ≡ slice_get items p
      kept p h = get-take (length items - 1) (slice_set items i e) p (below_last p h)
          ∙ get-set_other items i e p (gone p h)

      step : (p : ℕ) → (p ≡ i) ⊎ (p ≡ i → ⊥) → length items - 1 ≤ p → times p new ≡ 0
      step p (inl same) h = let f = fewer p in let s = subst (λ n. one p n ≡ 1) same (one_same p) in
          let once = index.inside p (subst (λ n. n < length items) (sym same) within) in omega arith
      step p (inr other) h = let f = fewer p in let s = one_other p i other in
          let none = index.outside p (past p (length items) h (λ t. other (t ∙ sym last))) in omega arith

  -- and otherwise the last one's place leaves too, and the place comes in again with its key
  pub index_moved : (items : List (K × V)) (i : ℕ) (e : K × V) (order less least new : List ℕ) → i < length items
      → (i ≡ length items - 1 → ⊥) → slice_get items (length items - 1) ≡ Some e
      → IsIndex R items order → IsLeft i order less → IsLeft (length items - 1) less least
      → IsInserted R items e.0 i least new → IsIndex R (take (length items - 1) (slice_set items i e)) new
  index_moved items i e order less least new within other last index left left' entered =
      record {
        rising = subst (AreRising R after) (sym entered.is)
            (rising_entered o after least entered.at i e (let m = many in let n = near in omega arith)
            (get-take (length items - 1) (slice_set items i e) i near ∙ get-set_same items i e within)
            gap.low gap.high rising);
        inside = λ p h. let m = many in let b = back p in let was = index.inside p (omega arith) in
            let s = one_other p (length items - 1) (λ t. omega arith) in omega arith;
        outside = λ p h. let m = many in step p (same_or_not p (length items - 1)) (omega arith);
        counted = let m = many in let was = index.counted in
            let grown = ap length entered.is ∙ length_entered least entered.at i in
            let shrunk : suc (length less) ≡ length order = ap (λ ps. suc (length ps)) left.is
            ∙ length_left order left.at i left.was in
            let again : suc (length least) ≡ length less = ap (λ ps. suc (length ps)) left'.is
            ∙ length_left less left'.at (length items - 1) left'.was in omega arith;
      }
    where
      near : i < length items - 1
      near = below_unless i (length items) within other

      after : List (K × V)
      after = take (length items - 1) (slice_set items i e)

      many : length after ≡ length items - 1
      many = let m = length-set items i e in length-take-le (length items - 1) (slice_set items i e) (omega arith)

      fewer : (p : ℕ) → times p least + one p (length items - 1) + one p i ≡ times p order
      fewer p =
          let f : times p less + one p i ≡ times p order = ap (λ ps. times p ps + one p i) left.is
          ∙ times_left order left.at i p left.was in
          let g : times p least + one p (length items - 1) ≡ times p less =
          ap (λ ps. times p ps + one p (length items - 1)) left'.is
          ∙ times_left less left'.at (length items - 1) p left'.was in
          omega arith

      back : (p : ℕ) → times p new + one p (length items - 1) ≡ times p order
      back p = let f = fewer p in
          let c : times p new ≡ one p i + times p least = ap (times p) entered.is
          ∙ times_entered least entered.at i p in
          omega arith

      gone : (p : ℕ) → 0 < times p least → p ≡ i → ⊥
      gone p h same = let f = fewer p in let s = subst (λ n. one p n ≡ 1) same (one_same p) in
          let once = index.inside p (subst (λ n. n < length items) (sym same) within) in omega arith

      gone_last : (p : ℕ) → 0 < times p least → p ≡ length items - 1 → ⊥
      gone_last p h same = let f = fewer p in let s = subst (λ n. one p n ≡ 1) same (one_same p) in
          let once = index.inside p (omega arith) in omega arith

      rising_least : AreRising R items least
      rising_least = subst (AreRising R items) (sym left'.is) (rising_left R items less left'.at
          (subst (AreRising R items) (sym left.is) (rising_left R items order left.at index.rising)))

      below_last : (p : ℕ) → 0 < times p least → p < length items - 1
      below_last p h = below_unless p (length items) (rising_inside R items least rising_least p h) (gone_last p h)

      kept : (p : ℕ) → 0 < times p least → slice_get after p ≡ slice_get items p
      kept p h = get-take (length items - 1) (slice_set items i e) p (below_last p h)
          ∙ get-set_other items i e p (gone p h)

      rising : AreRising R after least
      rising = rising_kept R items after least
          (λ p h. (let b = below_last p h in let m = many in omega arith, kept p h)) rising_least

      gap : IsGap R after e.0 least entered.at
      gap = gap_kept R items after least e.0 entered.at kept entered.gap

      step : (p : ℕ) → (p ≡ length items - 1) ⊎ (p ≡ length items - 1 → ⊥) → length items - 1 ≤ p → times p new ≡ 0
      step p (inl same) h = let b = back p in let s = subst (λ n. one p n ≡ 1) same (one_same p) in
          let once = index.inside p (omega arith) in omega arith
      step p (inr apart) h = let b = back p in let s = one_other p (length items - 1) apart in
          let none = index.outside p (past p (length items) h apart) in omega arith

  -- Which keys no place has, after one was left.

  -- no other place has a key that is nowhere else
  tail_none : (k : K) (e : K × V) (es : List (K × V)) → find R k (e ∷ es) ≡ None → find R k es ≡ None
  tail_none k e es none = step (eq_by_cmp R k e.0) none
    where
      step : (b : Bool) → cond b (Some e.1) (find R k es) ≡ None → find R k es ≡ None
      step true n = absurd (some_none n)
      step false n = n

  alone_apart : (items : List (K × V)) (i : ℕ) (k : K) → find R k (take i items ++ drop (suc i) items) ≡ None
      → (p : ℕ) → (p ≡ i → ⊥) → HasKeyAt R items k p → ⊥
  alone_apart [] i k none p other has = some_none (sym has.1)
  alone_apart (e ∷ items) zero k none zero other has = other refl
  alone_apart (e ∷ items) zero k none (suc p) other has = nowhere_found o exact items k none p has
  alone_apart (e ∷ items) (suc i) k none zero other has =
      nowhere_found o exact (e ∷ (take i items ++ drop (suc i) items)) k none zero has
  alone_apart (e ∷ items) (suc i) k none (suc p) other has =
      alone_apart items i k (tail_none k e (take i items ++ drop (suc i) items) none) p (λ s. other (ap suc s)) has

  module _ (items : List (K × V)) (i : ℕ) (order less : List ℕ) (within : i < length items)
      (index : IsIndex R items order) (left : IsLeft i order less) where
    pub left_gone : (p : ℕ) → 0 < times p less → p ≡ i → ⊥
    left_gone p h same =
        let f : times p less + one p i ≡ times p order = ap (λ ps. times p ps + one p i) left.is
        ∙ times_left order left.at i p left.was in
        let s = subst (λ n. one p n ≡ 1) same (one_same p) in
        let once = index.inside p (subst (λ n. n < length items) (sym same) within) in omega arith

    pub left_rising : AreRising R items less
    left_rising = subst (AreRising R items) (sym left.is) (rising_left R items order left.at index.rising)

    pub left_alone : (k : K) → find R k (take i items ++ drop (suc i) items) ≡ None → (p : ℕ) → 0 < times p less
        → HasKeyAt R items k p → ⊥
    left_alone k none p h has = alone_apart items i k none p (left_gone p h) has

    -- the other places are still there
    pub left_others : (p : ℕ) → p < length items → (p ≡ i → ⊥) → 0 < times p less
    left_others p inside other =
        let f : times p less + one p i ≡ times p order = ap (λ ps. times p ps + one p i) left.is
        ∙ times_left order left.at i p left.was in
        let s = one_other p i other in let once = index.inside p inside in omega arith

    -- and if one of them leaves, too, no place has its key
    pub left_both : (j : ℕ) (least : List ℕ) (e : K × V) → j < length items → slice_get items j ≡ Some e
        → (j ≡ i → ⊥) → IsLeft j less least → (p : ℕ) → 0 < times p least → HasKeyAt R items e.0 p → ⊥
    left_both j least e inside at other left' p h has =
        let g : times p least + one p j ≡ times p less = ap (λ ps. times p ps + one p j) left'.is
        ∙ times_left less left'.at j p left'.was in
        let f : times p less + one p i ≡ times p order = ap (λ ps. times p ps + one p i) left.is
        ∙ times_left order left.at i p left.was in
        let here : 0 < times p order = omega arith in
        let there : 0 < times j order = let once = index.inside j inside in omega arith in
        let same : p ≡ j = same_place o items order index.rising p j here there (e.0, has.0) e has.1 at refl in
        let s = subst (λ n. one p n ≡ 1) same (one_same p) in
        let once = index.inside p (subst (λ n. n < length items) (sym same) inside) in omega arith

    pub left_twice : (j : ℕ) (least : List ℕ) → IsLeft j less least → AreRising R items least
    left_twice j least left' = subst (AreRising R items) (sym left'.is) (rising_left R items less left'.at left_rising)
