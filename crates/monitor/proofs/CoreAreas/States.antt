-- What an event of a job does to the jobs: it leaves all others, and of that job's core the words outside the areas
-- that its call names.
use Rattle.std.proofs.Common.{◌≡◌, ℕ, ◌+◌, Bool, true, false, List, [], ◌∷◌, refl, sym, ap, subst, Option, Some, None}
use Rattle.std.proofs.Common.{if◌then◌else◌, ⊎_elim}
use Rattle.std.specs.Prelude.{nat_lt, nat_le}
use Rattle.words36.specs.declared.moment.Moment.{Moment}
use Rattle.spec_image.specs.Common.{Files, SpecVersion, Pack}
use Rattle.spec_machine.specs.Common.{Channel, SpecJob, State, channel_at, job_at, with_job, opens, Serving, Answers}
use Rattle.spec_machine.specs.Common.{step, last_date, on_job, on_channel, of_job, call_of}
use Rattle.spec_machine.specs.declared.area.Area.{Area}
use Rattle.spec_machine.specs.declared.call.Call.{Call}
use Rattle.spec_machine.specs.declared.call.Call.TheVariants.{Open, Inbuf, Outbuf, Lookup, Enter, Rename, In, Out}
use Rattle.spec_machine.specs.declared.call.Call.TheVariants.{Useti, Useto, Close, Releas, Getsts, Reset, MakeDir}
use Rattle.spec_machine.specs.declared.call.Call.TheVariants.{DeleteDir, Quota}
use Rattle.spec_machine.specs.declared.call.Event.TheVariants.{Call as Calls}
use Rattle.spec_machine.specs.declared.call.Reply.{Reply}
use Rattle.spec_machine.specs.declared.call.Reply.TheVariants.{NoChannel, DateRange}
use Rattle.spec_machine.proofs.Common.{slot-set_same, slot-set_other}
use Rattle.usercore.specs.Common.{ChangesWithin, words_at}
use Rattle.monitor.specs.Common.{on_open, areas_named, areas_of, areas_filled, areas_emptied, areas_closed}
use Rattle.monitor.specs.Common.{ChangesJob, areas_set_up, in_core}
use Rattle.usercore.proofs.AreaLaws.{same_within}
use Rattle.monitor.proofs.CoreAreas.Areas.{cut_within}
use Rattle.monitor.proofs.CoreAreas.Rows.{opens_within, sets_up_within, lookup_within, enter_within, refuses_within}
use Rattle.monitor.proofs.CoreAreas.Rows.{reads_within, puts_within, channel_within, closes_within, reset_within}

module _ (s : State) (n : ℕ) (job : SpecJob) (there : job_at s n ≡ Some job) where
  abbrev Changes : List Area → State → Type 0
  Changes areas t = ChangesJob n job areas s t

  same_state : (areas : List Area) → Changes areas s
  same_state areas = record { after = job; there = there; core = same_within areas job.core; others = λ m apart. refl }

  job_put : (areas : List Area) (after : SpecJob) (files : Files SpecVersion) → ChangesWithin areas job.core after.core
      → Changes areas (record (with_job s n after) { files = files })
  job_put areas after files within = record {
    after = after;
    there = slot-set_same s.jobs n after job there;
    core = within;
    others = λ m apart. slot-set_other s.jobs n m (Some after) apart;
  }

  by_channel : (areas : Channel → List Area) (row : Channel → Reply × State) (o : Option Channel)
      → ((c : Channel) → Changes (areas c) (row c).1) → Changes (on_open o areas) (on_channel s o row).1
  by_channel areas row None each = same_state []
  by_channel areas row (Some c) each = each c

  -- of a call that changes no word
  no_areas : (row : Channel → Reply × State) (o : Option Channel) → ((c : Channel) → Changes [] (row c).1)
      → Changes [] (on_channel s o row).1
  no_areas row None each = same_state []
  no_areas row (Some c) each = each c

  opens_state : (b : Bool) (areas : List Area) (r : Reply × SpecJob) → ChangesWithin areas job.core r.1.core
      → Changes areas (if b then of_job s n r else (NoChannel, s)).1
  opens_state true areas r within = job_put areas r.1 s.files within
  opens_state false areas r within = same_state areas

  module _ (pack : Pack) (serial : ℕ) where
    call_changes : (call : Call) (moment : Moment)
        → Changes (areas_named job call) (call_of pack serial s n job call moment).1
    call_changes (Open ch a) moment = opens_state (nat_le ch 15) _ (opens job ch a) (opens_within job ch a)
    call_changes (Inbuf ch k) moment = by_channel (λ c. areas_set_up job.core c c.input_header k) _ (channel_at job ch)
        (λ c. job_put _ _ _ (sets_up_within job ch c c.input_header k))
    call_changes (Outbuf ch k) moment =
        by_channel (λ c. areas_set_up job.core c c.output_header k) _ (channel_at job ch)
        (λ c. job_put _ _ _ (sets_up_within job ch c c.output_header k))
    call_changes (Lookup ch e) moment = by_channel (λ c. words_at (e + 1) 3 ∷ []) _ (channel_at job ch)
        (λ c. job_put _ _ _ (lookup_within pack s job ch c e))
    call_changes (Enter ch e) moment = by_channel (λ c. words_at (e + 1) 2 ∷ []) _ (channel_at job ch)
        (λ c. job_put _ _ _ (enter_within pack s job ch c e moment))
    call_changes (Rename ch e) moment = by_channel (λ c. words_at (e + 1) 1 ∷ []) _ (channel_at job ch)
        (λ c. job_put _ _ _ (refuses_within job _ _ _ e _ refl))
    call_changes (In ch a) moment = by_channel (λ c. areas_filled job.core c a) _ (channel_at job ch)
        (λ c. job_put _ _ _ (reads_within job ch c a))
    call_changes (Out ch a) moment = by_channel (λ c. areas_emptied job.core c) _ (channel_at job ch)
        (λ c. job_put _ _ _ (puts_within pack s job ch c a))
    call_changes (Useti ch k) moment = no_areas _ (channel_at job ch)
        (λ c. job_put [] _ _ (channel_within job ch c _ _))
    call_changes (Useto ch k) moment = no_areas _ (channel_at job ch)
        (λ c. job_put [] _ _ (channel_within job ch c _ _))
    call_changes (Close ch bits) moment = by_channel (λ c. areas_closed c bits) _ (channel_at job ch)
        (λ c. job_put _ _ _ (closes_within job _ _ _ ch c bits _ refl))
    call_changes (Releas ch) moment = by_channel (λ c. areas_closed c 0) _ (channel_at job ch)
        (λ c. job_put _ _ _ (closes_within job _ _ _ ch c 0 _ refl))
    call_changes (Getsts ch) moment = no_areas _ (channel_at job ch) (λ c. same_state [])
    call_changes Reset moment = job_put _ _ _ (reset_within job.core)
    call_changes (MakeDir e) moment = job_put _ _ _ (refuses_within job job _ _ e _ refl)
    call_changes (DeleteDir e) moment = job_put _ _ _ (refuses_within job job _ _ e _ refl)
    call_changes (Quota e) moment = job_put _ _ _ (refuses_within job job _ _ e _ refl)

    cut : (areas : List Area) (t : State) → Changes areas t → Changes (in_core job.core areas) t
    cut areas t is = record {
      after = is.after;
      there = is.there;
      core = cut_within job.core is.after.core areas is.core;
      others = is.others;
    }

    late_or_not : (call : Call) (moment : Moment) (late : Bool) → Changes (areas_of job call)
        (if late then (DateRange, s) else call_of pack serial s n job call moment).1
    late_or_not call moment true = same_state (areas_of job call)
    late_or_not call moment false =
        cut (areas_named job call) (call_of pack serial s n job call moment).1 (call_changes call moment)

    pub step_changes : (call : Call) (moment : Moment)
        → Changes (areas_of job call) (step pack serial s (Calls n call moment)).1
    step_changes call moment =
        subst (λ o. Changes (areas_of job call) (if nat_lt (last_date pack.layout) moment.date then (DateRange, s)
        else on_job s o (λ job. call_of pack serial s n job call moment)).1) (sym there)
        (late_or_not call moment (nat_lt (last_date pack.layout) moment.date))

  -- even if memory was lacking, and nothing was changed
  pub answer_changes : (pack : Pack) (call : Call) (moment : Moment) (reply : Reply) (t : State)
      → Answers pack (Serving s) (Calls n call moment) reply (Serving t) → Changes (areas_of job call) t
  answer_changes pack call moment reply t answered =
      ⊎_elim (λ stepped. subst (Changes (areas_of job call)) (ap (λ r. r.1) stepped.2)
      (step_changes pack stepped.0 call moment))
      (λ wanting. subst (Changes (areas_of job call)) (sym wanting.1) (same_state (areas_of job call))) answered
