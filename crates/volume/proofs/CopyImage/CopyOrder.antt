-- A copy whose home blocks come last: what a crash leaves of it before it is done.
use Rattle.std.proofs.Common.{◌≡◌, ◌⊎◌, inl, inr, ℕ, ◌<◌, ◌≤◌, min, arith}
use Rattle.blockdisk.specs.Common.{Contents, DiskState, LeavesOnly, Modifies, Near, leaves_weaker, modifies_on}
use Rattle.blockdisk.specs.Common.{modifies_wider}
use Rattle.spec_image.proofs.Common.{below_or_not}
use Rattle.volume.specs.Common.{HomesComeLast}

-- one more of the blocks from `first` was written
pub part_modified : (first end n : ℕ) (s s' s'' : DiskState) → first ≤ n → n < end
    → Modifies (λ m. (first ≤ m) × (m < end)) s s' → Modifies (λ m. m ≡ n) s' s''
    → Modifies (λ m. (first ≤ m) × (m < end)) s s''
part_modified first end n s s' s'' low high so_far more =
    modifies_on (λ m. (first ≤ m) × (m < end)) s s' s'' so_far
    (modifies_wider (λ m. m ≡ n) (λ m. (first ≤ m) × (m < end)) s' s'' (λ m same. (omega arith, omega arith)) more)

-- while the blocks after the gate are written, those below it are as they were
pub behind_first : (size behind : ℕ) (from : Contents) (t t' : DiskState) → 3 ≤ behind ⊎ size ≤ behind
    → LeavesOnly t t' (Near (λ n. (behind ≤ n) × (n < size)) t) → LeavesOnly t t' (HomesComeLast size from t)
behind_first size behind from t t' low leaves = leaves_weaker t t' (Near (λ n. (behind ≤ n) × (n < size)) t)
    (HomesComeLast size from t) leaves weaker
  where
    weaker : (c : Contents) → Near (λ n. (behind ≤ n) × (n < size)) t c → HomesComeLast size from t c
    weaker c near = inl (near.0, near.1, λ n below. near.2 n (λ within. out n below within low))
      where
        out : (n : ℕ) → n < 3 → (behind ≤ n) × (n < size) → 3 ≤ behind ⊎ size ≤ behind → ⊥
        out n below within (inl h) = let a = within.0 in omega arith
        out n below within (inr h) = let a = within.0 in let b = within.1 in omega arith

-- the least of two numbers is one of them
pub gate_or_end : (size behind : ℕ) → behind ≡ min size 3 → 3 ≤ behind ⊎ size ≤ behind
gate_or_end size behind is = step (below_or_not size 3)
  where
    step : (size < 3) ⊎ (3 ≤ size) → 3 ≤ behind ⊎ size ≤ behind
    step (inl small) = inr (omega arith)
    step (inr large) = inl (omega arith)
