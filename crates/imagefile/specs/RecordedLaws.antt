-- What a file's calls require of the past moments of a record.
use Rattle.std.specs.Prelude.{◌≤◌, ℕ, suc, List, [], ◌∷◌, length}
use Rattle.std.proofs.Common.{arith, ⊎_elim, inl, inr}
use Rattle.imagefile.specs.File.{Remains, MayRemain}
use Rattle.imagefile.specs.Calls.{Call}
use Rattle.imagefile.specs.Unseen.{Unseen}
use Rattle.imagefile.specs.Recorded.{LeftSince, recorded}

pub recorded_counts_now : (u : Unseen) (calls : List Call) (t : ℕ) (r : Remains) → t ≤ length calls
    → MayRemain (recorded u calls) r → LeftSince u calls t r
recorded_counts_now u [] t r le may = (le, may)
recorded_counts_now u (call ∷ earlier) t r le may = inr (le, may)

until : (u : Unseen) (calls : List Call) (t : ℕ) (r : Remains) → LeftSince u calls t r → t ≤ length calls
until u [] t r left = left.0
until u (call ∷ earlier) t r left = ⊎_elim (λ was. let le = until u earlier t r was in
    omega (arith, le)) (λ now. now.0) left

pub recorded_only_now : (u : Unseen) (calls : List Call) (r : Remains) → LeftSince u calls (length calls) r
    → MayRemain (recorded u calls) r
recorded_only_now u [] r left = left.1
recorded_only_now u (call ∷ earlier) r left = ⊎_elim
    (λ was. absurd (too_late (length earlier) (until u earlier (length (call ∷ earlier)) r was))) (λ now. now.1) left
  where
    too_late : (n : ℕ) → suc n ≤ n → ⊥
    too_late n le = omega (arith, le)

pub recorded_reaches_back : (u : Unseen) (calls : List Call) (t s : ℕ) (r : Remains) → t ≤ s → LeftSince u calls s r
    → LeftSince u calls t r
recorded_reaches_back u [] t s r le left = (omega (arith, le, left.0), left.1)
recorded_reaches_back u (call ∷ earlier) t s r le left = ⊎_elim
    (λ was. inl (recorded_reaches_back u earlier t s r le was)) (λ now. inr (omega (arith, le, now.0), now.1)) left
