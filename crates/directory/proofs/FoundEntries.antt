-- The entry with a key, and where it is.
use Rattle.std.proofs.Common.{◌≡◌, ℕ, zero, suc, Bool, true, false, cond, List, [], ◌∷◌, take, slice_get, Some, None}
use Rattle.std.proofs.Common.{sym, subst, Ordering}
use Rattle.std.specs.Ordering.{eq_by_cmp}
use Rattle.std.specs.Cmp.{IsTotalOrder}
use Rattle.std.specs.FinMap.Entries.{find}
use Rattle.spec_image.proofs.Common.{some_none, some_same, find_first}

pub true_false : true ≡ false → ⊥
true_false e = cc

module _ {K V : Type 0} {R : K → K → Ordering} (o : IsTotalOrder R) where
  pub find_at : (items : List (K × V)) (i : ℕ) (k : K) (v : V) → slice_get items i ≡ Some (k, v)
      → find R k (take i items) ≡ None → find R k items ≡ Some v
  find_at [] i k v is none = absurd (some_none (sym is))
  find_at (y ∷ ys) zero k v is none = let e : y ≡ (k, v) = some_same is in
      subst (λ (x : K × V). find R k (x ∷ ys) ≡ Some v) (sym e) (find_first o (k, v) ys)
  find_at (y ∷ ys) (suc i) k v is none = step (eq_by_cmp R k y.0) none (find_at ys i k v is)
    where
      step : (b : Bool) → cond b (Some y.1) (find R k (take i ys)) ≡ None
          → (find R k (take i ys) ≡ None → find R k ys ≡ Some v) → cond b (Some y.1) (find R k ys) ≡ Some v
      step true n rest = absurd (some_none n)
      step false n rest = rest n
