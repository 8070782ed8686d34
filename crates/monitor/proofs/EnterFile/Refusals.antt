-- What an ENTER that begins nothing leaves.
use Rattle.std.proofs.Common.{◌≡◌, ℕ, Bool, false, List, Option, None, Some, sym, ap, subst, ◌∙◌, inl, inr, refl}
use Rattle.std.proofs.Common.{slice_set}
use Rattle.words36.specs.declared.moment.Moment.{Moment}
use Rattle.blockdisk.specs.Common.{DiskState}
use Rattle.spec_machine.specs.Common.{enter, enter_answer, enter_done, State, slot, channel_at, with_job, place_at}
use Rattle.spec_machine.specs.Common.{settled, refused_at, Service, Serving, Answers, is_plain, step, call_of}
use Rattle.spec_machine.specs.Common.{on_channel, of_job}
use Rattle.spec_image.specs.Common.{pack_of}
use Rattle.spec_machine.specs.declared.call.Call.TheVariants.{Enter}
use Rattle.spec_machine.specs.declared.call.Event.TheVariants.{Call as Calls}
use Rattle.spec_machine.specs.declared.call.Reply.{Reply}
use Rattle.spec_machine.specs.declared.call.Reply.TheVariants.{Done}
use Rattle.volume.specs.Common.{MemoryMap, IsSoundMemory}
use Rattle.monitor.specs.Common.{IsEnterAnswer, IsKnown, AreKeyed, AreReading, IsState, Serves, IsTimely, UnderKeys}
use Rattle.monitor.specs.Common.{sides_in, job_of, state_of}
use Rattle.monitor.specs.declared.job.Job.{Job}
use Rattle.monitor.proofs.common.EventAnswers.{state_is, slot_of, job_set, called, goes_on, same_files, settled_with}
use Rattle.monitor.proofs.common.EventAnswers.{settled_reply}
use Rattle.monitor.proofs.common.CallRows.{job_same}
use Rattle.monitor.proofs.common.Dropped.{job_keyed, leaves_none}
use Rattle.monitor.proofs.EnterFile.Readers.{reading_same}
use Rattle.monitor.proofs.common.KnownState.{known}
use Rattle.monitor.proofs.common.JobReaders.{keeps_reading}
use Rattle.spec_machine.specs.Jobs as machine
use Rattle.spec_machine.specs.Sound as machine_states

-- What every other answer leaves.
module _ (d : DiskState) (map : MemoryMap) (failed : Bool) (jobs jobs' : List (Option Job)) (n : ℕ) (job job' : Job)
    (ch e : ℕ) (moment : Moment) (reply : Reply)
    (there : slot jobs n ≡ Some job) (set : jobs' ≡ slice_set jobs n (Some job')) (kept : job'
    ≡ record job { core = job'.core }) (not_done : reply ≡ Done
    → ⊥) (keyed : AreKeyed map.pending jobs) (reading : AreReading map.live jobs) where
  pub other_keyed : AreKeyed map.pending jobs'
  other_keyed = subst (AreKeyed map.pending) (sym set)
      (job_keyed map.pending jobs n (Some job') keyed (ap (λ j. sides_in (Some j)) kept ∙ ap sides_in (sym there)))

  pub other_reading : AreReading map.live jobs'
  other_reading = subst (AreReading map.live) (sym set)
      (keeps_reading map.live map.live jobs n job job' reading there (reading_same map map job job' refl kept))

  module _ (sound : IsSoundMemory d map false) (honest : d.honest) (timely : IsTimely d moment)
      (row : (s : State) → IsKnown d map s → (w : UnderKeys)
      → IsEnterAnswer (pack_of d) s (job_of w job) (job_of w job') (channel_at (job_of w job) ch) e reply)
      (s : State) (state : IsState d map jobs s) where
    abbrev before : State
    before = state_of s.files state.under jobs

    before_is : s ≡ before
    before_is = state_is s state.under jobs state.jobs_are

    abbrev Leads : Type 0
    Leads = (new : Service) × Serves d map failed jobs' new
        × Answers (pack_of d) (Serving s) (Calls n (Enter ch e) moment) reply new

    -- by a step of the machine
    by_step : failed ≡ false → ((serial : ℕ)
        → call_of (pack_of d) serial before n (job_of state.under job) (Enter ch e) moment
        ≡ (reply, with_job before n (job_of state.under job'))) → Leads
    by_step serves steps =
        goes_on d map failed jobs' (pack_of d) (Calls n (Enter ch e) moment) reply s
        (state_of s.files state.under jobs') serves state.sound
        (λ serial. subst (λ x. step (pack_of d) serial x (Calls n (Enter ch e) moment)
        ≡ (reply, state_of s.files state.under jobs')) (sym before_is)
        (called (pack_of d) jobs n (Enter ch e) moment serial s.files state.under (timely honest) job there ∙ steps
        serial
        ∙ ap (λ x. (reply, x)) (job_set s.files state.under jobs n job' ∙ ap (state_of s.files state.under) (sym set))))
        (same_files d map map failed jobs jobs' other_keyed other_reading (leaves_none map) s state)

    -- on the channel
    abbrev row_for : Option machine.Channel → Reply × State
    row_for o = on_channel before o
        (λ x. of_job before n (enter (pack_of d) before (job_of state.under job) ch x e moment))

    by_channel : failed ≡ false → (o : Option machine.Channel) → channel_at (job_of state.under job) ch ≡ o
        → IsEnterAnswer (pack_of d) before (job_of state.under job) (job_of state.under job') o e reply → Leads
    by_channel serves None at is =
        by_step serves (λ serial. ap row_for at ∙ ap (λ r. (r, before)) (sym is.0)
        ∙ ap (λ x. (reply, x)) (job_same before n (job_of state.under job) (slot_of state.under jobs n (Some job) there)
        ∙ ap (with_job before n) (sym is.1)))
    by_channel serves (Some x) at (inl wants) = (
      Serving (state_of s.files state.under jobs'),
      (
        serves,
        same_files d map map failed jobs jobs' other_keyed other_reading (leaves_none map) s state
            (subst machine_states.IsSound unchanged state.sound),
      ),
      inr (
        wants.0,
        sym unchanged,
        ap (λ y. is_plain ((step (pack_of d) 0 y (Calls n (Enter ch e) moment)).0)) before_is
            ∙ ap (λ r. is_plain r.0) (called (pack_of d) jobs n (Enter ch e) moment 0 s.files state.under
            (timely honest) job there)
            ∙ ap (λ o. is_plain ((row_for o).0)) at
            ∙ ap is_plain (settled_reply (enter_answer (pack_of d) before (job_of state.under job) x e
            (place_at (job_of state.under job) e)) _ _) ∙ wants.1,
        refl,
      ),
    )
      where
        unchanged : s ≡ state_of s.files state.under jobs'
        unchanged =
            before_is ∙ job_same before n (job_of state.under job) (slot_of state.under jobs n (Some job) there)
            ∙ ap (with_job before n) (sym wants.2) ∙ job_set s.files state.under jobs n job'
            ∙ ap (state_of s.files state.under) (sym set)
    by_channel serves (Some x) at (inr is) =
        by_step serves (λ serial. ap row_for at
        ∙ ap (of_job before n) (ap (λ r. settled r (enter_done (pack_of d) before
        (job_of state.under job) ch x e moment
        (place_at (job_of state.under job) e)) (refused_at (job_of state.under job) e)) is.0
        ∙ settled_with reply _ (refused_at (job_of state.under job) e) not_done
        ∙ ap (λ j. (reply, j)) (sym (is.1 not_done))))

    pub other_leads : failed ≡ false → Leads
    other_leads serves = by_channel serves (channel_at (job_of state.under job) ch) refl
        (row before (subst (IsKnown d map) before_is (known d map jobs s state sound honest)) state.under)
