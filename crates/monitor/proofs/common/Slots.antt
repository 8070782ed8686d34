-- Slots of jobs: what is in one, and what a list is after a slot of it is set.
use Rattle.std.proofs.Common.{◌≡◌, ◌<◌, ◌≤◌, ℕ, zero, suc, List, [], ◌∷◌, Option, None, Some, refl, ap, sym, ◌∙◌}
use Rattle.std.proofs.Common.{slice_set, slice_index_or, length, arith}
use Rattle.spec_machine.specs.Common.{slot}
use Rattle.spec_machine.proofs.Common.{set-slot}
use Rattle.monitor.specs.declared.job.Job.{Job}

pub set-twice : {X : Type 0} (xs : List X) (n : ℕ) (x y : X) → slice_set (slice_set xs n x) n y ≡ slice_set xs n y
set-twice [] n x y = refl
set-twice (z ∷ xs) zero x y = refl
set-twice (z ∷ xs) (suc n) x y = ap (λ ws. z ∷ ws) (set-twice xs n x y)

-- a job that comes back as it was leaves all as they were
pub unchanged : (old new : List (Option Job)) (n : ℕ) (job job' : Job) → slot old n ≡ Some job
    → new ≡ slice_set old n (Some job') → job' ≡ job → new ≡ old
unchanged old new n job job' at set same = set ∙ ap (λ j. slice_set old n (Some j)) same ∙ set-slot old n job at

-- What lies in a slot, as the list shows it.

pub slot_past : (jobs : List (Option Job)) (n : ℕ) → length jobs ≤ n → slot jobs n ≡ None
slot_past [] n past = refl
slot_past (x ∷ xs) zero past = absurd (omega arith)
slot_past (x ∷ xs) (suc n) past = slot_past xs n (omega arith)

pub slot_there : (jobs : List (Option Job)) (n : ℕ) (entry there : Option Job) → n < length jobs
    → entry ≡ slice_index_or jobs n entry → entry ≡ there → slot jobs n ≡ there
slot_there [] n entry there below at is = absurd (omega arith)
slot_there (x ∷ xs) zero entry there below at is = sym at ∙ is
slot_there (x ∷ xs) (suc n) entry there below at is = slot_there xs n entry there (omega arith) at is

-- put back as it lies there
pub set_same : (jobs : List (Option Job)) (n : ℕ) (entry : Option Job) → entry ≡ slice_index_or jobs n entry
    → slice_set jobs n entry ≡ jobs
set_same [] n entry at = refl
set_same (x ∷ xs) zero entry at = ap (λ y. y ∷ xs) at
set_same (x ∷ xs) (suc n) entry at = ap (λ ys. x ∷ ys) (set_same xs n entry at)
