-- Events of job 1 that are done: what becomes of its record.
use Rattle.std.proofs.Common.{◌≡◌, ℕ, zero, suc, ◌+◌, ◌<◌, Bool, true, false, if◌then◌else◌, List, [], ◌∷◌, length}
use Rattle.std.proofs.Common.{Option, Some, refl, sym, ap, subst, ◌∙◌, arith}
use Rattle.std.specs.Prelude.{nat_lt, slice_set}
use Rattle.words36.specs.declared.moment.Moment.{Moment}
use Rattle.spec_machine.specs.Common.{after_writes, placed, Channel, SpecJob, State, job_at, channel_at, with_job, slot}
use Rattle.spec_machine.specs.Common.{Steps, settled, deposit_answer, deposit_done, last_date, on_job, on_channel}
use Rattle.spec_machine.specs.Common.{of_job, call_of, deposit}
use Rattle.spec_image.specs.Common.{Pack}
use Rattle.spec_language.specs.Plans.{call_event, deposit_events}
use Rattle.spec_machine.specs.declared.call.Call.{Call}
use Rattle.spec_machine.specs.declared.call.Event.TheVariants.{Deposit}
use Rattle.spec_machine.specs.declared.call.Reply.{Reply}
use Rattle.spec_machine.specs.declared.call.Reply.TheVariants.{Done, DateRange}
use Rattle.spec_machine.proofs.Common.{settled_by, slot-set_same}
use Rattle.spec_language.proofs.PlanRuns.{AllDone}

-- the state with this record of job 1
abbrev pub at : State → SpecJob → State
at s j = with_job s 1 j

-- what stays of a job through all of its calls
pub record IsJob (me : ℕ) (j : SpecJob) : Type 0 where
  pub owner : j.ppn ≡ me
  pub core : length j.core ≡ 4096
  pub channels : length j.channels ≡ 16

abbrev pub with_core : SpecJob → List ℕ → SpecJob
with_core j core = record j { core = core }

pub set_twice : {X : Type 0} (xs : List X) (n : ℕ) (x y : X) → slice_set (slice_set xs n x) n y ≡ slice_set xs n y
set_twice [] n x y = refl
set_twice (z ∷ xs) zero x y = refl
set_twice (z ∷ xs) (suc n) x y = ap (λ ys. z ∷ ys) (set_twice xs n x y)

pub slot_set : {X : Type 0} (xs : List (Option X)) (n : ℕ) (x : Option X) → n < length xs
    → slot (slice_set xs n x) n ≡ x
slot_set [] n x there = absurd (omega arith)
slot_set (z ∷ xs) zero x there = refl
slot_set (z ∷ xs) (suc n) x there = slot_set xs n x (omega arith)

pub at_again : (s : State) (j k : SpecJob) → with_job (at s j) 1 k ≡ at s k
at_again s j k = ap (λ js. record s { jobs = js }) (set_twice s.jobs 1 (Some j) (Some k))

not_late : (late : Bool) (s t : State) (r : Reply × State) → (if late then (DateRange, s) else r) ≡ (Done, t)
    → r ≡ (Done, t)
not_late true s t r e = let wrong = ap (λ x. x.0) e in cc
not_late false s t r e = e

pub settled_done : {A : Type 0} (reply : Reply) (done : A) (other : Reply → A) → (settled reply done other).0 ≡ Done
    → (reply ≡ Done) × ((settled reply done other).1 ≡ done)
settled_done reply done other = settled_by (λ r. r.0 ≡ Done → (reply ≡ Done) × (r.1 ≡ done)) reply done other
    (λ is e. (is, refl)) (λ differs e. absurd (differs e))

module _ (pack : Pack) (s : State) (j0 : SpecJob) (there : job_at s 1 ≡ Some j0) where
  pub job_there : (j : SpecJob) → job_at (at s j) 1 ≡ Some j
  job_there j = slot-set_same s.jobs 1 j j0 there

  -- a call's own row
  pub call_done : (j : SpecJob) (call : Call) (moment : Moment) (t : State)
      → Steps pack (at s j) (call_event moment call) Done t
      → (serial : ℕ) × (call_of pack serial (at s j) 1 j call moment ≡ (Done, t))
  call_done j call moment t (serial, fresh, e) = (
    serial,
    subst (λ o. on_job (at s j) o (λ job. call_of pack serial (at s j) 1 job call moment) ≡ (Done, t))
        (job_there j) (not_late (nat_lt (last_date pack.layout) moment.date) (at s j) t _ e),
  )

  pub on_open : (j : SpecJob) (ch : ℕ) (c : Channel) (row : Channel → Reply × State) (t : State)
      → channel_at j ch ≡ Some c → on_channel (at s j) (channel_at j ch) row ≡ (Done, t) → row c ≡ (Done, t)
  on_open j ch c row t is e = subst (λ o. on_channel (at s j) o row ≡ (Done, t)) is e

  -- a row that changes only its own job
  pub row_done : (j : SpecJob) (answer : Reply) (done : SpecJob) (other : Reply → SpecJob) (t : State)
      → of_job (at s j) 1 (settled answer done other) ≡ (Done, t) → (answer ≡ Done) × (t ≡ at s done)
  row_done j answer done other t e =
      let d = settled_done answer done other (ap (λ x. x.0) e) in
      (d.0, sym (ap (λ x. x.1) e) ∙ at_again s j (settled answer done other).1 ∙ ap (at s) d.1)

  -- Deposits.

  one_deposit : (j : SpecJob) (a w : ℕ) (t : State) → Steps pack (at s j) (Deposit 1 a w) Done t
      → t ≡ at s (with_core j (slice_set j.core a w))
  one_deposit j a w t (serial, fresh, e) =
      let row : deposit (at s j) 1 j a w ≡ (Done, t) =
      subst (λ o. on_job (at s j) o (λ job. deposit (at s j) 1 job a w) ≡ (Done, t)) (job_there j) e in
      let d = settled_done (deposit_answer j a) (with_job (at s j) 1 (deposit_done j a w)) (λ r. at s j)
      (ap (λ x. x.0) row) in
      sym (ap (λ x. x.1) row) ∙ d.1 ∙ at_again s j (deposit_done j a w)

  pub deposits_done : (ws : List ℕ) (j : SpecJob) (a : ℕ) (t : State) → AllDone pack (at s j) (deposit_events a ws) t
      → t ≡ at s (with_core j (after_writes j.core (placed a ws)))
  deposits_done [] j a t all = all
  deposits_done (w ∷ ws) j a t (u, steps, rest) =
      deposits_done ws (with_core j (slice_set j.core a w)) (a + 1) t
      (subst (λ v. AllDone pack v (deposit_events (a + 1) ws) t) (one_deposit j a w u steps) rest)
