-- A call that asks the volume for a change of the files: what it promises, from what the volume states of the change
-- and what the machine does.
use Rattle.std.proofs.Common.{◌≡◌, ℕ, Bool, false, List, Option, Some, Result, Ok, Err, refl, sym, ap, subst, ◌∙◌}
use Rattle.std.proofs.Common.{inl, inr, ⊎_elim, slice_set, IsErrOf}
use Rattle.std.specs.Prelude.{not}
use Rattle.words36.specs.declared.moment.Moment.{Moment}
use Rattle.blockdisk.specs.Common.{Contents, DiskState, MayLeave, leaves_weaker}
use Rattle.spec_image.specs.Common.{File, Files, pack_of, StandsOn, without_serials}
use Rattle.spec_machine.specs.Common.{State, Service, Serving, Broken, Answers, is_light, is_plain, step, IsSound}
use Rattle.spec_machine.specs.declared.call.Call.{Call}
use Rattle.spec_machine.specs.declared.call.Event.{Event}
use Rattle.spec_machine.specs.declared.call.Event.TheVariants.{Call as Calls}
use Rattle.spec_machine.specs.declared.call.Reply.{Reply}
use Rattle.spec_machine.proofs.Common.{slot-set_other, set-slot}
use Rattle.volume.specs.Common.{ChangesFiles, DeviceAnswer, MemoryMap, StandsForOneOf}
use Rattle.volume.specs.declared.error.CallError.{CallError}
use Rattle.volume.specs.declared.error.CallError.TheVariants.{Device, Failed}
use Rattle.monitor.specs.Common.{IsLight, KeepsCore, CallCrashes, IsDecided, IsAmong, IsServing, refused_with}
use Rattle.monitor.specs.Common.{AreKeyed, ArePlaced, AreReading, IsState, Serves, sides_in, state_of}
use Rattle.monitor.specs.declared.job.Job.{Job}
use Rattle.monitor.proofs.common.EventAnswers.{in_state, goes_on, same_files, contrary}
use Rattle.monitor.proofs.common.Called.{quiet_failed}
use Rattle.monitor.proofs.common.Dropped.{job_keyed, leaves_none}
use Rattle.monitor.proofs.EnterFile.Readers.{reading_same}
use Rattle.monitor.proofs.common.Promised.{quiet_serves}
use Rattle.monitor.proofs.common.JobReaders.{keeps_reading}
use Rattle.spec_machine.specs.declared.call.Reply.TheVariants as replies

module _ {D : Type 0} (state : D → DiskState) (only_now : (disk : D) (contents : Contents) → (state disk).honest
    → (state disk).left_since (state disk).clock contents → MayLeave (state disk) contents) (disk : D)
    (c : MemoryMap) (failed : Bool) (alive : failed ≡ false) (placed : ArePlaced c) (job : Job) (call : Call)
    (heavy : IsLight call (Some job) → ⊥) (changes : KeepsCore call → ⊥) (moment : Moment)
    (jobs : List (Option Job)) (n : ℕ) (among : IsAmong c jobs n job) where
  abbrev d : DiskState
  d = state disk

  abbrev event : Event
  event = Calls n call moment

  -- the jobs, with this one in the place of the one that calls
  abbrev jobs_with : Job → List (Option Job)
  jobs_with x = slice_set jobs n (Some x)

  -- what the machine answers and leaves, whatever serial it gives
  abbrev Steps : State → Reply → State → Type 0
  Steps s reply after = (serial : ℕ) → step (pack_of d) serial s event ≡ (reply, after)

  -- The disk wasn't called, and of the job at most the core is another one.
  module _ (core : List ℕ) where
    abbrev job' : Job
    job' = record job { core = core }

    keyed : AreKeyed c.pending (jobs_with job')
    keyed = job_keyed c.pending jobs n (Some job') among.keyed (ap sides_in (sym among.there))

    reading : AreReading c.live (jobs_with job')
    reading = keeps_reading c.live c.live jobs n job job' among.reading among.there
        (reading_same c c job job' refl refl)

    -- It is refused, or answered otherwise, as the machine does.
    pub told_serves : (reply : Reply) → (reply ≡ replies.Failed → ⊥) × (reply ≡ replies.Device → ⊥)
        × (reply ≡ replies.NoMemory → ⊥)
        → ((code : ℕ) → reply ≡ replies.Refused code → job' ≡ refused_with call job code)
        → (IsDecided reply → job' ≡ job)
        → (d.honest → (s : State) (is : IsState d c jobs s)
        → Steps s reply (state_of s.files is.under (jobs_with job')))
        → IsServing state disk disk c c failed jobs (jobs_with job') n call moment reply
    told_serves reply only refused decided steps =
        quiet_serves state only_now disk disk c c failed failed job job' call moment reply alive (refl, refl)
        (only.0, only.1) placed (λ light. absurd (heavy light)) (λ kept. absurd (changes kept))
        (λ none. absurd (only.2 none)) refused (λ is. (refl, decided is)) jobs n among keyed reading
        (λ honest. in_state d c false jobs (λ old. (new : Service) × Serves d c false (jobs_with job') new
        × Answers (pack_of d) old event reply new) refl
        (λ s is. goes_on d c false (jobs_with job') (pack_of d) event reply s
        (state_of s.files is.under (jobs_with job')) refl is.sound (steps honest s is)
        (same_files d c c false jobs (jobs_with job') keyed reading (leaves_none c) s is)))

  -- There is no memory for it, which is no answer that the machine gives.
  pub memory_serves : ((s : State) → is_light s n call ≡ false) → (d.honest → (s : State) → IsState d c jobs s
      → is_plain ((step (pack_of d) 0 s event).0) ≡ false)
      → IsServing state disk disk c c failed jobs (jobs_with job) n call moment replies.NoMemory
  memory_serves weighs undecided =
      quiet_serves state only_now disk disk c c failed failed job job call moment replies.NoMemory alive (refl, refl)
      (λ x. cc x, λ x. cc x) placed (λ light. absurd (heavy light)) (λ kept. absurd (changes kept))
      (λ none. (refl, refl)) (λ code is. cc is) (λ is. absurd is) jobs n among (keyed job.core) (reading job.core)
      (λ honest. in_state d c false jobs (λ old. (new : Service) × Serves d c false (jobs_with job) new
      × Answers (pack_of d) old event replies.NoMemory new) refl
      (λ s is. (
        Serving s,
        (refl, subst (λ js. IsState d c js s) (sym (set-slot jobs n job among.there)) is),
        inr (refl, refl, undecided honest s is, ap not (weighs s)),
      )))

  -- The volume changed the files, or the device failed meanwhile.
  module _ (disk' : D) (c' : MemoryMap) (failed' : Bool) (become : Files File → Files File)
      (result : Result (Unit {0}) CallError) (files : ChangesFiles d (state disk') c become result)
      (answer : DeviceAnswer d (state disk') failed failed' result)
      (row : d.honest → (s : State) → IsState d c jobs s → (after : State) × Steps s replies.Done after
      × (without_serials after.files ≡ become (without_serials s.files))) where
    abbrev d' : DiskState
    d' = state disk'

    crashes : CallCrashes d d' c jobs n call moment
    crashes honest s is =
        let made = row (answer.same.was_honest honest) s is in
        leaves_weaker d d' (StandsForOneOf (pack_of d) (without_serials s.files) _) _
        (files.crash honest (without_serials s.files) is.files)
        (λ contents. ⊎_elim (λ was. inl was)
        (λ new. inr (
          0,
          subst (StandsOn (pack_of d) contents)
              (sym made.2 ∙ ap (λ (r : Reply × State). without_serials r.1.files) (sym (made.1 0))) new,
        )))

    undecided : d'.honest → (s : State) → IsState d c jobs s → is_plain ((step (pack_of d) 0 s event).0) ≡ false
    undecided honest s is = ap (λ (r : Reply × State). is_plain r.0) ((row (answer.same.was_honest honest) s is).1 0)

    -- The device failed.
    pub broken_serves : ((s : State) → is_light s n call ≡ false) → result ≡ Err Device
        → IsServing state disk disk' c c' failed' jobs (jobs_with job) n call moment replies.Device
    broken_serves weighs is =
        let broke = answer.device is in
        record {
          keyed = λ serves. absurd (contrary serves broke);
          placed = λ serves. absurd (contrary serves broke);
          reading = λ serves. absurd (contrary serves broke);
          others = λ m other. slot-set_other jobs n m (Some job) other;
          answered = λ honest. in_state d c false jobs (λ old. (new : Service)
              × Serves d' c' failed' (jobs_with job) new × Answers (pack_of d) old event replies.Device new) refl
              (λ s is. (Broken, broke, (refl, undecided honest s is, ap not (weighs s))));
          crash = crashes;
          idle = λ idle. absurd idle;
          light = λ light. absurd (heavy (subst (IsLight call) among.there light));
          kept = λ kept. absurd (changes kept);
          memory = λ none. cc none;
          decided = λ is. absurd is;
          refused = λ code at. cc at;
          failed = (λ t. inl refl, λ t. broke);
          blamed = λ honest at. cc at;
          counted = λ at. answer.counted is;
          served = λ serves. absurd (serves refl);
          same = answer.same;
        }

    -- the state that it leaves
    done_answered : (job' : Job) → failed' ≡ false → ((honest : d'.honest) (s : State) (is : IsState d c jobs s)
        → IsSound (row (answer.same.was_honest honest) s is).0
        → IsState d' c' (jobs_with job') (row (answer.same.was_honest honest) s is).0)
        → d'.honest → (old : Service) → Serves d c false jobs old → (new : Service)
        × Serves d' c' failed' (jobs_with job') new × Answers (pack_of d) old event replies.Done new
    done_answered job' works left honest =
        in_state d c false jobs (λ old. (new : Service) × Serves d' c' failed' (jobs_with job') new
        × Answers (pack_of d) old event replies.Done new) refl
        (λ s is.
        let made = row (answer.same.was_honest honest) s is in
        goes_on d' c' failed' (jobs_with job') (pack_of d) event replies.Done s made.0 works is.sound made.1
        (left honest s is))

    -- It is done.
    pub done_serves : (job' : Job) → result ≡ Ok tt → AreKeyed c'.pending (jobs_with job') → ArePlaced c'
        → AreReading c'.live (jobs_with job')
        → (failed' ≡ false → (honest : d'.honest) (s : State) (is : IsState d c jobs s)
        → IsSound (row (answer.same.was_honest honest) s is).0
        → IsState d' c' (jobs_with job') (row (answer.same.was_honest honest) s is).0)
        → IsServing state disk disk' c c' failed' jobs (jobs_with job') n call moment replies.Done
    done_serves job' is keyed placed' reading left =
        let fine : IsErrOf result Device → ⊥ = λ error. let wrong = sym is ∙ error in cc in
        let whole : IsErrOf result Failed → ⊥ = λ error. let wrong = sym is ∙ error in cc in
        let still = answer.still fine whole in
        let works : failed' ≡ false = still ∙ alive in
        record {
          keyed = λ serves. keyed;
          placed = λ serves. placed';
          reading = λ serves. reading;
          others = λ m other. slot-set_other jobs n m (Some job') other;
          answered = done_answered job' works (left works);
          crash = crashes;
          idle = λ idle. absurd idle;
          light = λ light. absurd (heavy (subst (IsLight call) among.there light));
          kept = λ kept. absurd (changes kept);
          memory = λ none. cc none;
          decided = λ is. absurd is;
          refused = λ code none. cc none;
          failed = quiet_failed failed failed' replies.Done alive still (λ e. cc e, λ e. cc e);
          blamed = λ honest error. cc error;
          counted = λ error. cc error;
          served = λ serves. answer.served fine;
          same = answer.same;
        }
