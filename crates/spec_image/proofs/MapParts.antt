-- A map of parts that have blocks: after a change of the map each part is new, or stays and has no block
-- in common with the parts that are gone.
-- In each section `o` states that the order of the keys is total, and `exact` that only equal keys tie in it.
use Rattle.std.proofs.Common.{◌≡◌, ℕ, ◌+◌, ◌≤◌, ◌≢◌, ◌⊎◌, inl, inr, ⊎_elim, Bool, true, false, cond, Option, Some}
use Rattle.std.proofs.Common.{None, refl, sym, ap, subst, ◌∙◌, arith, Ordering}
use Rattle.std.specs.Ordering.{eq_by_cmp}
use Rattle.std.specs.Cmp.{IsTotalOrder}
use Rattle.std.specs.FinMap.{IsAntisymmetric}
use Rattle.spec_image.specs.Maps.{FinMap, get, insert, remove, sum_over}
use Rattle.spec_image.proofs.MapLaws.{inserted, get-remove, get-remove_is, get-remove_other}
use Rattle.spec_image.proofs.MapSums.{part, sum-remove, at-le-sum, two-le-sum}

-- `reach n x` is how often block n is in the part x, and `gone n` how often in what is gone of the map. If no block is
-- in the map twice, a block of a part that stays is not gone.
abbrev pub IsNewOrStays : {K X : Type 0} {R : K → K → Ordering} → (K → X → Type 0) → (ℕ → X → ℕ) → (ℕ → ℕ)
    → FinMap R X → K → X → Type 0
IsNewOrStays IsNew reach gone m k x = IsNew k x
    ⊎ ((get m k ≡ Some x) × ((n : ℕ) → gone n + reach n x ≤ sum_over (reach n) m))

-- a key that is absent is absent after a removal
pub still_none : {K X : Type 0} {R : K → K → Ordering} (o : IsTotalOrder R) (m : FinMap R X) (k q : K)
    → get m q ≡ None → get (remove m k) q ≡ None
still_none {X = X} {R = R} o m k q none = get-remove o m k q ∙ ap (cond (eq_by_cmp R q k) None) none
    ∙ either (eq_by_cmp R q k)
  where
    either : (b : Bool) → cond {A = Option X} b None None ≡ None
    either true = refl
    either false = refl

module _ {K X : Type 0} {R : K → K → Ordering} (o : IsTotalOrder R) (exact : IsAntisymmetric R) where
  -- what holds for the new part and for all that was at other keys
  pub each_inserted : (P : K → X → Type 0) (m : FinMap R X) (k : K) (v : X) → P k v
      → ((q : K) (x : X) → q ≢ k → get m q ≡ Some x → P q x)
      → (q : K) (x : X) → get (insert m k v) q ≡ Some x → P q x
  each_inserted P m k v here others q x is =
      ⊎_elim (λ same. subst (λ z. P z x) (sym same.0) (subst (P k) (sym same.1) here))
      (λ other. others q x other.0 other.1) (inserted o exact m k v q x is)

  -- what is found, if anything, is a part of the sum
  pub found-le-sum : (g : X → ℕ) (m : FinMap R X) (k : K) (was : Option X) → get m k ≡ was → part g was ≤ sum_over g m
  found-le-sum g m k None e = omega arith
  found-le-sum g m k (Some x) e = at-le-sum o exact g m k x e

  module _ (IsNew : K → X → Type 0) (reach : ℕ → X → ℕ) (m : FinMap R X) where
    -- one is put, whether there was one before or not
    pub each_put : (k : K) (was : Option X) (v : X) → get m k ≡ was → IsNew k v → (q : K) (x : X)
        → get (insert m k v) q ≡ Some x → IsNewOrStays IsNew reach (λ n. part (reach n) was) m q x
    each_put k was v at new = each_inserted (IsNewOrStays IsNew reach (λ n. part (reach n) was) m) m k v
        (inl new) (λ q x differ is. inr (is, λ n. apart n q x differ is was at))
      where
        apart : (n : ℕ) (q : K) (x : X) → q ≢ k → get m q ≡ Some x → (w : Option X) → get m k ≡ w
            → part (reach n) w + reach n x ≤ sum_over (reach n) m
        apart n q x differ is None e = let a = at-le-sum o exact (reach n) m q x is in omega arith
        apart n q x differ is (Some y) e = two-le-sum o exact (reach n) m k q y x e is differ

    pub each_removed : (k : K) (v : X) → get m k ≡ Some v → (q : K) (x : X) → get (remove m k) q ≡ Some x
        → IsNewOrStays IsNew reach (λ n. reach n v) m q x
    each_removed k v at q x is =
        let there = get-remove_is o exact m k q x is in
        inr (there.1, λ n. two-le-sum o exact (reach n) m k q v x at there.1 there.0)

    -- one is removed, and then one put
    pub each_renamed : (k : K) (v : X) (to : K) (w : X) → get m k ≡ Some v → IsNew to w → (q : K) (x : X)
        → get (insert (remove m k) to w) q ≡ Some x → IsNewOrStays IsNew reach (λ n. reach n v) m q x
    each_renamed k v to w at new = each_inserted (IsNewOrStays IsNew reach (λ n. reach n v) m) (remove m k) to w
        (inl new) (λ q x differ is. each_removed k v at q x is)

    -- two are put in the place of two
    pub each_of_two : (k : K) (v changed : X) (l : K) (w other_changed : X) → get m k ≡ Some v → get m l ≡ Some w
        → l ≢ k → IsNew k changed → IsNew l other_changed
        → (q : K) (x : X) → get (insert (insert m k changed) l other_changed) q ≡ Some x
        → IsNewOrStays IsNew reach (λ n. reach n v + reach n w) m q x
    each_of_two k v changed l w other_changed at at_other differ new other_new =
        each_inserted (IsNewOrStays IsNew reach (λ n. reach n v + reach n w) m) (insert m k changed) l other_changed
        (inl other_new) (λ q x other is.
        each_inserted (λ z y. z ≢ l → IsNewOrStays IsNew reach (λ n. reach n v + reach n w) m z y) m k changed
        (λ _. inl new) (λ z y one there two. inr (there, λ n. three n z y there one two)) q x is other)
      where
        three : (n : ℕ) (q : K) (x : X) → get m q ≡ Some x → q ≢ k → q ≢ l
            → reach n v + reach n w + reach n x ≤ sum_over (reach n) m
        three n q x is one two =
            let r = sum-remove o exact (reach n) m k v at in
            let p = two-le-sum o exact (reach n) (remove m k) l q w x (get-remove_other o exact m k l differ
            ∙ at_other) (get-remove_other o exact m k q one ∙ is) two in
            omega arith
