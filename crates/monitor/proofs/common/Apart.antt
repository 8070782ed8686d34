-- What a call leaves of jobs: an IN depends on its own job's record alone, and no call changes another job.
use Rattle.std.proofs.Common.{◌≡◌, ◌≤◌, ⊎_elim, ℕ, Bool, false, if◌then◌else◌, Option, Some, None, refl, sym, ap}
use Rattle.std.proofs.Common.{subst, ◌∙◌, arith}
use Rattle.std.specs.Prelude.{nat_lt}
use Rattle.std.proofs.lemmas.Bool.Decides.{nat_tests}
use Rattle.words36.specs.declared.moment.Moment.{Moment}
use Rattle.spec_machine.specs.Common.{reads, Channel, SpecJob, State, channel_at, job_at, Service, Serving, Broken}
use Rattle.spec_machine.specs.Common.{Answers, step, last_date, on_job, on_channel, of_job, job_of}
use Rattle.spec_image.specs.Common.{Pack}
use Rattle.spec_machine.specs.declared.call.Call.TheVariants.{In}
use Rattle.spec_machine.specs.declared.call.Event.TheVariants.{Call as Calls}
use Rattle.spec_machine.specs.declared.call.Reply.{Reply}
use Rattle.spec_machine.specs.declared.call.Reply.TheVariants.{NoMemory, Device, DateRange}
use Rattle.spec_machine.proofs.Common.{serving_same, not_broken, slot-set_same, spares_step}
use Rattle.monitor.specs.Common.{read_by, read_of}
use Rattle.spec_machine.specs.declared.call.Call.{Call}
use Rattle.spec_machine.specs.declared.call.Event.{Event}
use Rattle.spec_machine.specs.Step as machine

-- An IN.

-- an outcome is this answer, and this record of the job
abbrev IsOwn : ℕ → Reply × SpecJob → Reply × State → Type 0
IsOwn n r out = (out.0 ≡ r.0) × (job_at out.1 n ≡ Some r.1)

pub not_late : (a b : ℕ) → b ≤ a → nat_lt a b ≡ false
not_late a b timely = grind (arith, nat_tests)

own_channel : (s : State) (n : ℕ) (own : SpecJob) (ch a : ℕ) → job_at s n ≡ Some own → (c : Option Channel)
    → IsOwn n (read_by own ch a c) (on_channel s c (λ c. of_job s n (reads own ch c a)))
own_channel s n own ch a there None = (refl, there)
own_channel s n own ch a there (Some c) = (refl, slot-set_same s.jobs n (reads own ch c a).1 own there)

in_own : (pack : Pack) (serial : ℕ) (s : State) (n : ℕ) (own : SpecJob) (ch a : ℕ) (moment : Moment)
    → job_at s n ≡ Some own
    → moment.date ≤ last_date pack.layout
    → IsOwn n (read_of own ch a) (step pack serial s (Calls n (In ch a) moment))
in_own pack serial s n own ch a moment there timely =
    subst (λ (b : Bool). IsOwn n (read_of own ch a) (if b then (DateRange, s)
    else on_job s (job_at s n) (λ job. machine.call_of pack serial s n job (In ch a) moment)))
    (sym (not_late (last_date pack.layout) moment.date timely))
    (subst (λ o. IsOwn n (read_of own ch a) (on_job s o (λ job. machine.call_of pack serial s n job (In ch a) moment)))
    (sym there) (own_channel s n own ch a there (channel_at own ch)))

module _ (S : Service → Type 0) (pack : Pack) (s : State) (n : ℕ) (moment : Moment) (reply : Reply) where
  abbrev pub IsStill : SpecJob → ℕ → ℕ → Type 0
  IsStill own ch a = (after : State) × S (Serving after) × (reply ≡ (read_of own ch a).0)
      × (job_at after n ≡ Some (read_of own ch a).1)

  by_service : (own : SpecJob) (ch a : ℕ) → job_at s n ≡ Some own → moment.date ≤ last_date pack.layout
      → (reply ≡ NoMemory → ⊥) → (reply ≡ Device → ⊥)
      → (new : Service) → S new → Answers pack (Serving s) (Calls n (In ch a) moment) reply new → IsStill own ch a
  by_service own ch a there timely room works Broken is answers = absurd (works answers.0)
  by_service own ch a there timely room works (Serving after) is answers = ⊎_elim
      (λ steps.
      let does = subst (IsOwn n (read_of own ch a)) steps.2 (in_own pack steps.0 s n own ch a moment there timely) in
      (after, is, does.0, does.1))
      (λ none. absurd (room none.0))
      answers

  -- it was answered from a state, since neither memory nor the device failed it
  pub in_still : (own : SpecJob) (ch a : ℕ) (call : Call) → call ≡ In ch a → job_at s n ≡ Some own
      → moment.date ≤ last_date pack.layout → (reply ≡ NoMemory → ⊥) → (reply ≡ Device → ⊥)
      → (new : Service) → S new → Answers pack (Serving s) (Calls n call moment) reply new → IsStill own ch a
  in_still own ch a call asked there timely room works new is answers =
      by_service own ch a there timely room works new is
      (subst (λ x. Answers pack (Serving s) (Calls n x moment) reply new) asked answers)

  -- Another job is left as it was.

  abbrev pub IsApart : Call → Type 0
  IsApart call = (after : Service) × S after × Answers pack (Serving s) (Calls n call moment) reply after
      × ((t : State) → after ≡ Serving t → (m : ℕ) → (m ≡ n → ⊥) → job_at t m ≡ job_at s m)

  others_stay : (call : Call) (after : State) → Answers pack (Serving s) (Calls n call moment) reply (Serving after)
      → (m : ℕ) → (m ≡ n → ⊥) → job_at after m ≡ job_at s m
  others_stay call after answers m other = ⊎_elim
      (λ steps. subst (λ (r : Reply × State). job_at r.1 m ≡ job_at s m) steps.2
      (spares_step pack steps.0 s m (Calls n call moment) other))
      (λ none. ap (λ t. job_at t m) none.1)
      answers

  pub apart : (call : Call) (new : Service) → S new → Answers pack (Serving s) (Calls n call moment) reply new
      → IsApart call
  apart call Broken is answers = (Broken, is, answers, λ t e. absurd (not_broken (sym e)))
  apart call (Serving after) is answers = (
    Serving after,
    is,
    answers,
    λ t e m other. ap (λ x. job_at x m) (sym (serving_same e)) ∙ others_stay call after answers m other,
  )

-- An event leaves every job but its own as it was.
module _ (S : Service → Type 0) (pack : Pack) (s : State) (event : Event) (reply : Reply) where
  abbrev pub LeavesOthers : Type 0
  LeavesOthers = (after : Service) × S after × Answers pack (Serving s) event reply after
      × ((t : State) → after ≡ Serving t → (m : ℕ) → (m ≡ job_of event → ⊥) → job_at t m ≡ job_at s m)

  stay : (after : State) → Answers pack (Serving s) event reply (Serving after) → (m : ℕ) → (m ≡ job_of event → ⊥)
      → job_at after m ≡ job_at s m
  stay after answers m other = ⊎_elim
      (λ steps. subst (λ (r : Reply × State). job_at r.1 m ≡ job_at s m) steps.2
      (spares_step pack steps.0 s m event other))
      (λ none. ap (λ t. job_at t m) none.1)
      answers

  pub leaves_others : (new : Service) × S new × Answers pack (Serving s) event reply new → LeavesOthers
  leaves_others (Broken, is, answers) = (Broken, is, answers, λ t e. absurd (not_broken (sym e)))
  leaves_others (Serving after, is, answers) = (
    Serving after,
    is,
    answers,
    λ t e m other. ap (λ x. job_at x m) (sym (serving_same e)) ∙ stay after answers m other,
  )
