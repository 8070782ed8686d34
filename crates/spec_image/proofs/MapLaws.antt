-- Laws of finite maps: what each operation answers, and equations between maps.
-- In each section `o` states that the order of the keys is total, and `exact` that only equal keys tie in it.
-- MapLists has maps made of a list, MapEdits an edit of that list, and MapSums sums and sizes.
use Rattle.std.proofs.Common.{◌≡◌, Bool, true, false, cond, not, T, List, [], length, Option, Some, None, ◌≢◌, ◌⊎◌}
use Rattle.std.proofs.Common.{inl, inr, refl, sym, ap, ◌∙◌, Ordering}
use mathlib.Core.HLevel.{Σ_prop_path}
use lib.Dec.{T_prop}
use Rattle.std.specs.Ordering.{eq_by_cmp, is_eq}
use Rattle.std.specs.Cmp.{IsTotalOrder, tied_itself, alike_right, eq_by_cmp_equiv, Equal-is}
use Rattle.std.specs.FinMap.{IsAntisymmetric}
use Rattle.std.specs.FinMap.Entries.{find, put, is_sorted, where_key, is_sorted-put, find-put, find-where_key}
use Rattle.std.specs.FinMap.Entries.{same_entries}
use Rattle.spec_image.specs.Maps.{FinMap, entries, empty, checked, get, insert, remove, size}

pub some_same : {A : Type 0} {x y : A} → Some x ≡ Some y → x ≡ y
some_same e = cc

pub some_none : {A : Type 0} {x : A} → Some x ≡ None → ⊥
some_none e = cc

-- Tests.

turned : {A : Type 0} (b : Bool) (x y : A) → cond (not b) x y ≡ cond b y x
turned true x y = refl
turned false x y = refl

-- a test that is repeated: the inner branch is never reached
twice : {A : Type 0} (b : Bool) (x y z : A) → cond b x (cond b y z) ≡ cond b x z
twice true x y z = refl
twice false x y z = refl

-- Two keys.

module _ {K : Type 0} {R : K → K → Ordering} (o : IsTotalOrder R) where
  -- a key ties with itself
  pub at_itself : (k : K) → eq_by_cmp R k k ≡ true
  at_itself k = ap is_eq (tied_itself o k)

  -- keys that do not tie are different
  pub apart : (q k : K) → eq_by_cmp R q k ≡ false → q ≢ k
  apart q k e same = let t : eq_by_cmp R q k ≡ true = ap (eq_by_cmp R q) (sym same) ∙ at_itself q in cc

  module _ (exact : IsAntisymmetric R) where
    -- keys that tie are equal
    pub tied : (q k : K) → eq_by_cmp R q k ≡ true → q ≡ k
    tied q k h = exact q k ((Equal-is (R q k)).0 h)

    pub same_or_other : (q k : K) → (q ≡ k) ⊎ (q ≢ k)
    same_or_other q k = decide (eq_by_cmp R q k) refl
      where
        decide : (b : Bool) → eq_by_cmp R q k ≡ b → (q ≡ k) ⊎ (q ≢ k)
        decide true e = inl (tied q k e)
        decide false e = inr (apart q k e)

    pub not_tied : (q k : K) → q ≢ k → eq_by_cmp R q k ≡ false
    not_tied q k differ = decide (eq_by_cmp R q k) refl
      where
        decide : (b : Bool) → eq_by_cmp R q k ≡ b → b ≡ false
        decide true e = absurd (differ (tied q k e))
        decide false e = refl

-- What each operation answers.

module _ {K X : Type 0} {R : K → K → Ordering} where
  pub entries_sorted : (m : FinMap R X) → T (is_sorted R (entries m))
  unfolding entries
  entries_sorted m = m.sorted

  pub same_entries_map : (m n : FinMap R X) → entries m ≡ entries n → m ≡ n
  unfolding entries
  same_entries_map m n e =
      let pairs : ◌≡◌ {A = (es : List (K × X)) × T (is_sorted R es)} (m.list, m.sorted) (n.list, n.sorted) = Σ_prop_path
      (λ es. T_prop _) e in
      λ i. record { list = (pairs i).0; sorted = (pairs i).1 }

  pub get-entries : (m : FinMap R X) (q : K) → get m q ≡ find R q (entries m)
  unfolding get
  get-entries m q = refl

  pub size-entries : (m : FinMap R X) → size m ≡ length (entries m)
  unfolding size
  size-entries m = refl

  pub entries-remove : (m : FinMap R X) (k : K)
      → entries (remove m k) ≡ where_key R (λ q. not (eq_by_cmp R k q)) (entries m)
  unfolding remove entries
  entries-remove m k = refl

module _ {K : Type 0} (R : K → K → Ordering) (X : Type 0) where
  pub entries-empty : entries (empty {X = X} {R = R}) ≡ []
  unfolding empty entries
  entries-empty = refl

  pub size-empty : size (empty {X = X} {R = R}) ≡ 0
  unfolding empty size entries
  size-empty = refl

  pub get-empty : (q : K) → get (empty {X = X} {R = R}) q ≡ None
  unfolding empty get entries
  get-empty q = refl

module _ {K X : Type 0} {R : K → K → Ordering} (o : IsTotalOrder R) where
  entries-checked : (es : List (K × X)) (b : Bool) (e : is_sorted R es ≡ b) (m : FinMap R X) → T b
      → entries (checked es b e m) ≡ es
  unfolding entries
  entries-checked es true e m h = refl
  entries-checked es false e m h = absurd h

  pub entries-insert : (m : FinMap R X) (k : K) (v : X) → entries (insert m k v) ≡ put R k v (entries m)
  unfolding insert
  entries-insert m k v = entries-checked _ _ refl m (is_sorted-put R o k v (entries m) (entries_sorted m))

  pub get-insert : (m : FinMap R X) (k : K) (v : X) (q : K)
      → get (insert m k v) q ≡ cond (eq_by_cmp R q k) (Some v) (get m q)
  unfolding get
  get-insert m k v q = ap (find R q) (entries-insert m k v) ∙ find-put R o q k v (entries m)

  pub get-insert_same : (m : FinMap R X) (k : K) (v : X) → get (insert m k v) k ≡ Some v
  get-insert_same m k v = get-insert m k v k ∙ ap (λ b. cond b (Some v) (get m k)) (at_itself o k)

  pub get-remove : (m : FinMap R X) (k q : K) → get (remove m k) q ≡ cond (eq_by_cmp R q k) None (get m q)
  unfolding get
  get-remove m k q = ap (find R q) (entries-remove m k)
      ∙ find-where_key R (λ x. not (eq_by_cmp R k x)) q (λ x t. ap (λ r. not (is_eq r)) (sym (alike_right o q x k t)))
      (entries m)
      ∙ turned (eq_by_cmp R k q) _ _ ∙ ap (λ b. cond b None (get m q)) ((eq_by_cmp_equiv o).symm k q)

  pub get-removed : (m : FinMap R X) (k : K) → get (remove m k) k ≡ None
  get-removed m k = get-remove m k k ∙ ap (λ b. cond b None (get m k)) (at_itself o k)

module _ {K X : Type 0} {R : K → K → Ordering} (o : IsTotalOrder R) (exact : IsAntisymmetric R) where
  pub get-insert_other : (m : FinMap R X) (k : K) (v : X) (q : K) → q ≢ k → get (insert m k v) q ≡ get m q
  get-insert_other m k v q differ = get-insert o m k v q
      ∙ ap (λ b. cond b (Some v) (get m q)) (not_tied o exact q k differ)

  pub get-remove_other : (m : FinMap R X) (k q : K) → q ≢ k → get (remove m k) q ≡ get m q
  get-remove_other m k q differ = get-remove o m k q ∙ ap (λ b. cond b None (get m q)) (not_tied o exact q k differ)

  -- what is in a map after an insertion: the new value at its key, or what was there before at another
  pub inserted : (m : FinMap R X) (k : K) (v : X) (q : K) (x : X) → get (insert m k v) q ≡ Some x
      → ((q ≡ k) × (x ≡ v)) ⊎ ((q ≢ k) × (get m q ≡ Some x))
  inserted m k v q x is = split (eq_by_cmp R q k) refl (sym (get-insert o m k v q) ∙ is)
    where
      split : (b : Bool) → eq_by_cmp R q k ≡ b → cond b (Some v) (get m q) ≡ Some x → ((q ≡ k) × (x ≡ v))
          ⊎ ((q ≢ k) × (get m q ≡ Some x))
      split true e h = inl (tied o exact q k e, sym (some_same h))
      split false e h = inr (apart o q k e, h)

  -- what is in a map after a removal was there before, at another key
  pub get-remove_is : (m : FinMap R X) (k q : K) (x : X) → get (remove m k) q ≡ Some x → (q ≢ k) × (get m q ≡ Some x)
  get-remove_is m k q x is = split (eq_by_cmp R q k) refl (sym (get-remove o m k q) ∙ is)
    where
      split : (b : Bool) → eq_by_cmp R q k ≡ b → cond b None (get m q) ≡ Some x → (q ≢ k) × (get m q ≡ Some x)
      split true e h = cc
      split false e h = (apart o q k e, h)

  -- Equations between maps.

  -- maps that answer alike are equal
  pub same_map : (m n : FinMap R X) → ((q : K) → get m q ≡ get n q) → m ≡ n
  same_map m n is = same_entries_map m n (same_entries R o exact (entries m) (entries n) (entries_sorted m)
      (entries_sorted n) (λ q. sym (get-entries m q) ∙ is q ∙ get-entries n q))

  -- what is at a key is put there again
  kept : (m : FinMap R X) (k : K) (old : Option X) → get m k ≡ old → (q : K) (b : Bool) → eq_by_cmp R q k ≡ b
      → cond b old (get m q) ≡ get m q
  kept m k old is q true t = sym is ∙ ap (get m) (sym (tied o exact q k t))
  kept m k old is q false t = refl

  pub insert_same : (m : FinMap R X) (k : K) (v : X) → get m k ≡ Some v → insert m k v ≡ m
  insert_same m k v is = same_map _ _ (λ q. get-insert o m k v q ∙ kept m k (Some v) is q (eq_by_cmp R q k) refl)

  pub remove_none : (m : FinMap R X) (k : K) → get m k ≡ None → remove m k ≡ m
  remove_none m k is = same_map _ _ (λ q. get-remove o m k q ∙ kept m k None is q (eq_by_cmp R q k) refl)

  pub insert-insert_same : (m : FinMap R X) (k : K) (v w : X) → insert (insert m k v) k w ≡ insert m k w
  insert-insert_same m k v w = same_map _ _ (λ q. simp (get-insert {X = X} o) (twice (eq_by_cmp R q k) _ _ _))

  pub insert-removed : (m : FinMap R X) (k : K) (v : X) → insert (remove m k) k v ≡ insert m k v
  insert-removed m k v = same_map _ _
      (λ q. simp (get-insert {X = X} o, get-remove {X = X} o) (twice (eq_by_cmp R q k) _ _ _))

  pub remove-insert_same : (m : FinMap R X) (k : K) (v : X) → remove (insert m k v) k ≡ remove m k
  remove-insert_same m k v = same_map _ _
      (λ q. simp (get-insert {X = X} o, get-remove {X = X} o) (twice (eq_by_cmp R q k) _ _ _))

  pub remove-insert_new : (m : FinMap R X) (k : K) (v : X) → get m k ≡ None → remove (insert m k v) k ≡ m
  remove-insert_new m k v is = remove-insert_same m k v ∙ remove_none m k is
