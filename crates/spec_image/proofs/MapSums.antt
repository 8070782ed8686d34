-- Laws of sums over lists and over maps, of the size of a map, and of how often a number is in a list. In each section
-- `o` states that the order of the keys is total, and `exact` that only equal keys tie in it.
use Rattle.std.proofs.Common.{◌≡◌, ℕ, ◌+◌, ◌≤◌, Bool, true, false, cond, List, [], ◌∷◌, ◌++◌, map, length, Option, Some}
use Rattle.std.proofs.Common.{None, ◌≢◌, refl, sym, ap, ◌∙◌, arith, Ordering, Less, Equal, Greater}
use Rattle.std.proofs.lemmas.Bool.{eq-eqb, ne_eqb}
use Rattle.std.specs.Ordering.{eq_by_cmp, is_eq}
use Rattle.std.specs.Cmp.{IsTotalOrder}
use Rattle.std.specs.FinMap.{IsAntisymmetric}
use Rattle.std.specs.FinMap.Entries.{find, put, by_order}
use Rattle.std.specs.List.{AllByRecursion}
use Rattle.spec_image.specs.Maps.{FinMap, entries, empty, get, insert, remove, size, values, from_entries, map_values}
use Rattle.spec_image.specs.Maps.{EachOnce, total, sum_entries, sum_over, times}
use Rattle.spec_image.proofs.MapLaws.{some_none, apart, get-entries, size-entries, entries-empty, entries-insert}
use Rattle.spec_image.proofs.MapLaws.{get-removed, get-remove_other, insert-removed, insert_same, same_entries_map}
use Rattle.spec_image.proofs.MapLists.{each_in_entries, get-from_entries, entries-map_values}

-- Lists.

pub times-append : (n : ℕ) (xs ys : List ℕ) → times n (xs ++ ys) ≡ times n xs + times n ys
times-append n [] ys = omega arith
times-append n (x ∷ xs) ys = omega (arith, times-append n xs ys)

pub times_head : (n : ℕ) (xs : List ℕ) → times n (n ∷ xs) ≡ times n xs + 1
times_head n xs = let e = eq-eqb n n refl in rw e (omega arith)

pub times_other : (n x : ℕ) (xs : List ℕ) → n ≢ x → times n (x ∷ xs) ≡ times n xs
times_other n x xs differ = let e = ne_eqb n x differ in rw e (omega arith)

module _ {X : Type 0} (f : X → ℕ) where
  pub total-append : (xs ys : List X) → total f (xs ++ ys) ≡ total f xs + total f ys
  total-append [] ys = omega arith
  total-append (x ∷ xs) ys = omega (arith, total-append xs ys)

  pub total-map : {Y : Type 0} (h : Y → X) (ys : List Y) → total f (map h ys) ≡ total (λ y. f (h y)) ys
  total-map h [] = refl
  total-map h (y ∷ ys) = ap (λ n. f (h y) + n) (total-map h ys)

  pub total_zero : (xs : List X) → AllByRecursion (λ x. f x ≡ 0) xs → total f xs ≡ 0
  total_zero [] a = refl
  total_zero (x ∷ xs) a = omega (arith, a.0, total_zero xs a.1)

  module _ (g : X → ℕ) where
    pub total_le : (xs : List X) → AllByRecursion (λ x. f x ≤ g x) xs → total f xs ≤ total g xs
    total_le [] a = omega arith
    total_le (x ∷ xs) a = omega (arith, a.0, total_le xs a.1)

pub length-total : {X : Type 0} (xs : List X) → length xs ≡ total (λ x. 1) xs
length-total [] = refl
length-total (x ∷ xs) = omega (arith, length-total xs)

-- Sums over the entries of a map.

-- what is at a key, measured
abbrev pub part : {X : Type 0} → (X → ℕ) → Option X → ℕ
part g None = 0
part g (Some x) = g x

pub sum_entries-empty : {K X : Type 0} (R : K → K → Ordering) (g : K → X → ℕ)
    → sum_entries g (empty {X = X} {R = R}) ≡ 0
sum_entries-empty {X = X} R g = ap (total (λ e. g e.0 e.1)) (entries-empty R X)

module _ {K X : Type 0} {R : K → K → Ordering} (o : IsTotalOrder R) (f g : K → X → ℕ) where
  pub sum_entries_le : (m : FinMap R X) → ((q : K) (x : X) → get m q ≡ Some x → f q x ≤ g q x)
      → sum_entries f m ≤ sum_entries g m
  sum_entries_le m each = total_le (λ e. f e.0 e.1) (λ e. g e.0 e.1) (entries m)
      (each_in_entries o (λ q x. f q x ≤ g q x) m each)

module _ {K X : Type 0} {R : K → K → Ordering} (o : IsTotalOrder R) (exact : IsAntisymmetric R) (g : K → X → ℕ) where
  total-put : (k : K) (v : X) (es : List (K × X)) → find R k es ≡ None
      → total (λ e. g e.0 e.1) (put R k v es) ≡ g k v + total (λ e. g e.0 e.1) es
  total-put k v [] none = refl
  total-put k v (e ∷ es) none =
      elim (R k e.0) as (λ r. cond (is_eq r) (Some e.1) (find R k es) ≡ None
      → total (λ e. g e.0 e.1) (by_order r ((k, v) ∷ e ∷ es) ((e.0, v) ∷ es) (e ∷ put R k v es))
      ≡ g k v + (g e.0 e.1 + total (λ e. g e.0 e.1) es)) [
        | Less ↦ λ h. refl
        | Equal ↦ λ h. absurd (some_none h)
        | Greater ↦ λ h. let step = total-put k v es h in omega arith
      ] none

  pub sum_entries-insert_new : (m : FinMap R X) (k : K) (v : X) → get m k ≡ None
      → sum_entries g (insert m k v) ≡ g k v + sum_entries g m
  sum_entries-insert_new m k v none = ap (total (λ e. g e.0 e.1)) (entries-insert o m k v)
      ∙ total-put k v (entries m) (sym (get-entries m k) ∙ none)

  pub sum_entries-remove : (m : FinMap R X) (k : K) (v : X) → get m k ≡ Some v
      → sum_entries g m ≡ g k v + sum_entries g (remove m k)
  sum_entries-remove m k v is = ap (sum_entries g) (sym (insert-removed o exact m k v ∙ insert_same o exact m k v is))
      ∙ sum_entries-insert_new (remove m k) k v (get-removed o m k)

  -- a sum changes by what was at the key and what is there now
  pub sum_entries-insert : (m : FinMap R X) (k : K) (v : X) (old : Option X) → get m k ≡ old
      → sum_entries g (insert m k v) + part (g k) old ≡ sum_entries g m + g k v
  sum_entries-insert m k v None is = let a = sum_entries-insert_new m k v is in omega arith
  sum_entries-insert m k v (Some w) is =
      let a = ap (sum_entries g) (sym (insert-removed o exact m k v))
      ∙ sum_entries-insert_new (remove m k) k v (get-removed o m k) in
      let b = sum_entries-remove m k w is in
      omega arith

  -- the values at two keys are two terms of the sum
  pub two-le-sum_entries : (m : FinMap R X) (k q : K) (v w : X) → get m k ≡ Some v → get m q ≡ Some w → q ≢ k
      → g k v + g q w ≤ sum_entries g m
  two-le-sum_entries m k q v w at at' differ =
      let a = sum_entries-remove m k v at in
      let b = sum_entries-remove (remove m k) q w (get-remove_other o exact m k q differ ∙ at') in
      omega arith

  -- a map made of a list in which each key comes once
  pub sum_entries-from_entries : (es : List (K × X)) → EachOnce R es
      → sum_entries g (from_entries {R = R} es) ≡ total (λ e. g e.0 e.1) es
  sum_entries-from_entries [] u = sum_entries-empty R g
  sum_entries-from_entries (e ∷ es) u =
      let a = sum_entries-insert_new (from_entries es) e.0 e.1 (get-from_entries o es e.0 ∙ u.0) in
      let b = sum_entries-from_entries es u.1 in
      omega arith

-- Sums over the values of a map.

pub sum-empty : {K X : Type 0} (R : K → K → Ordering) (g : X → ℕ) → sum_over g (empty {X = X} {R = R}) ≡ 0
sum-empty R g = sum_entries-empty R (λ k. g)

pub sum-values : {K X : Type 0} {R : K → K → Ordering} (g : X → ℕ) (m : FinMap R X) → sum_over g m ≡ total g (values m)
sum-values g m = sym (total-map g (λ e. e.1) (entries m))

module _ {K X : Type 0} {R : K → K → Ordering} (o : IsTotalOrder R) (f g : X → ℕ) where
  pub sum_le : (m : FinMap R X) → ((q : K) (x : X) → get m q ≡ Some x → f x ≤ g x) → sum_over f m ≤ sum_over g m
  sum_le = sum_entries_le o (λ k. f) (λ k. g)

module _ {K X : Type 0} {R : K → K → Ordering} (o : IsTotalOrder R) (exact : IsAntisymmetric R) (g : X → ℕ) where
  pub sum-insert_new : (m : FinMap R X) (k : K) (v : X) → get m k ≡ None
      → sum_over g (insert m k v) ≡ g v + sum_over g m
  sum-insert_new = sum_entries-insert_new o exact (λ k. g)

  pub sum-insert_over : (m : FinMap R X) (k : K) (v w : X) → get m k ≡ Some w
      → sum_over g (insert m k v) + g w ≡ sum_over g m + g v
  sum-insert_over m k v w = sum_entries-insert o exact (λ k. g) m k v (Some w)

  pub sum-insert : (m : FinMap R X) (k : K) (v : X) (old : Option X) → get m k ≡ old
      → sum_over g (insert m k v) + part g old ≡ sum_over g m + g v
  sum-insert = sum_entries-insert o exact (λ k. g)

  pub sum-remove : (m : FinMap R X) (k : K) (v : X) → get m k ≡ Some v → sum_over g m ≡ g v + sum_over g (remove m k)
  sum-remove = sum_entries-remove o exact (λ k. g)

  pub at-le-sum : (m : FinMap R X) (k : K) (v : X) → get m k ≡ Some v → g v ≤ sum_over g m
  at-le-sum m k v is = omega (arith, sum-remove m k v is)

  pub two-le-sum : (m : FinMap R X) (k q : K) (v w : X) → get m k ≡ Some v → get m q ≡ Some w → q ≢ k
      → g v + g w ≤ sum_over g m
  two-le-sum = two-le-sum_entries o exact (λ k. g)

  pub sum-from_entries : (es : List (K × X)) → EachOnce R es → sum_over g (from_entries {R = R} es)
      ≡ total (λ e. g e.1) es
  sum-from_entries = sum_entries-from_entries o exact (λ k. g)

module _ {K X : Type 0} {R : K → K → Ordering} (o : IsTotalOrder R) (g : X → ℕ) where
  pub sum-map_values : {Y : Type 0} (h : Y → X) (m : FinMap R Y)
      → sum_over g (map_values h m) ≡ sum_over (λ y. g (h y)) m
  sum-map_values h m = ap (total (λ e. g e.1)) (entries-map_values o h m)
      ∙ total-map (λ e. g e.1) (λ e. (e.0, h e.1)) (entries m)

-- Entries of a list, each under a key of its own, add up to no more than the map.

-- At the key of the entry the map has a value that h measures to no less than g measures the entry's.
abbrev pub IsPartOf : {K X Y : Type 0} {R : K → K → Ordering} → (X → ℕ) → (Y → ℕ) → FinMap R Y → K × X → Type 0
IsPartOf {Y = Y} g h m e = (y : Y) × (get m e.0 ≡ Some y) × (g e.1 ≤ h y)

module _ {K X Y : Type 0} {R : K → K → Ordering} (o : IsTotalOrder R) (exact : IsAntisymmetric R) (g : X
    → ℕ) (h : Y → ℕ) where
  still_part : (m : FinMap R Y) (k : K) (es : List (K × X)) → find R k es ≡ None → AllByRecursion (IsPartOf g h m) es
      → AllByRecursion (IsPartOf g h (remove m k)) es
  still_part m k [] none a = tt
  still_part m k (e ∷ es) none a = step (eq_by_cmp R k e.0) refl none (λ r. still_part m k es r a.1)
    where
      other : eq_by_cmp R k e.0 ≡ false → e.0 ≢ k
      other t same = apart o k e.0 t (sym same)

      step : (b : Bool) → eq_by_cmp R k e.0 ≡ b → cond b (Some e.1) (find R k es) ≡ None
          → (find R k es ≡ None → AllByRecursion (IsPartOf g h (remove m k)) es)
          → AllByRecursion (IsPartOf g h (remove m k)) (e ∷ es)
      step true t n rest = absurd (some_none n)
      step false t n rest = ((a.0.0, get-remove_other o exact m k e.0 (other t) ∙ a.0.1, a.0.2), rest n)

  pub total-le-sum : (m : FinMap R Y) (es : List (K × X)) → EachOnce R es → AllByRecursion (IsPartOf g h m) es
      → total (λ e. g e.1) es ≤ sum_over h m
  total-le-sum m [] u a = omega arith
  total-le-sum m (e ∷ es) u a =
      let s = sum-remove o exact h m e.0 a.0.0 a.0.1 in
      let r = total-le-sum (remove m e.0) es u.1 (still_part m e.0 es u.0 a.1) in
      let i = a.0.2 in
      omega arith

-- How many keys a map has.

pub no_length : {X : Type 0} (xs : List X) → length xs ≡ 0 → xs ≡ []
no_length [] e = refl
no_length (x ∷ xs) e = absurd (omega arith)

module _ {K X : Type 0} {R : K → K → Ordering} where
  pub size-sum : (m : FinMap R X) → size m ≡ sum_over (λ x. 1) m
  size-sum m = size-entries m ∙ length-total (entries m)

  pub empty_of_size : (m : FinMap R X) → size m ≡ 0 → m ≡ empty
  empty_of_size m e = same_entries_map m empty (no_length (entries m) (sym (size-entries m) ∙ e)
      ∙ sym (entries-empty R X))

module _ {K X : Type 0} {R : K → K → Ordering} (o : IsTotalOrder R) (exact : IsAntisymmetric R) where
  pub size-insert_new : (m : FinMap R X) (k : K) (v : X) → get m k ≡ None → size (insert m k v) ≡ size m + 1
  size-insert_new m k v none = omega (
    arith,
    size-sum m,
    size-sum (insert m k v),
    sum-insert_new o exact (λ x. 1) m k v none,
  )

  pub size-insert_over : (m : FinMap R X) (k : K) (v w : X) → get m k ≡ Some w → size (insert m k v) ≡ size m
  size-insert_over m k v w is = omega (
    arith,
    size-sum m,
    size-sum (insert m k v),
    sum-insert_over o exact (λ x. 1) m k v w is,
  )

  pub size-remove : (m : FinMap R X) (k : K) (v : X) → get m k ≡ Some v → size m ≡ size (remove m k) + 1
  size-remove m k v is = omega (arith, size-sum m, size-sum (remove m k), sum-remove o exact (λ x. 1) m k v is)

  pub size-from_entries : (es : List (K × X)) → EachOnce R es → size (from_entries {R = R} es) ≡ length es
  size-from_entries es u = size-sum _ ∙ sum-from_entries o exact (λ x. 1) es u ∙ sym (length-total es)

pub size-map_values : {K X Y : Type 0} {R : K → K → Ordering} (o : IsTotalOrder R) (f : X → Y) (m : FinMap R X)
    → size (map_values f m) ≡ size m
size-map_values o f m = size-sum _ ∙ sum-map_values o (λ y. 1) f m ∙ sym (size-sum m)
