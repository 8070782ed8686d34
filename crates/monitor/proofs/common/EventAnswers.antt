-- What the monitor answers to an event is what the machine does.
use Rattle.std.proofs.Common.{◌≡◌, ◌<◌, ◌≤◌, ◌+◌, ℕ, Bool, true, false, List, [], ◌∷◌, ◌++◌, Option, None, Some, refl}
use Rattle.std.proofs.Common.{sym, ap, subst, ◌∙◌, ◌⊎◌, inl, inr, arith}
use Rattle.std.proofs.lemmas.Bool.Decides.{nat_tests}
use Rattle.std.specs.Prelude.{◌==◌, if◌then◌else◌, option_map, slice_set}
use Rattle.words36.specs.declared.moment.Moment.{Moment}
use Rattle.blockdisk.specs.Common.{DiskState}
use Rattle.spec_image.specs.Common.{File, Files, total, SpecVersion, Pack}
use Rattle.spec_machine.specs.Common.{State, slot, job_at, with_job, current_versions, pinned_versions, has_serial}
use Rattle.spec_machine.specs.Common.{Service, Serving, Broken, Answers, IsFresh, Steps, is_plain, takes_memory}
use Rattle.spec_machine.specs.Common.{settled, login_answer, IsSound, step, call_of, on_job, last_date}
use Rattle.spec_machine.specs.declared.call.Call.{Call}
use Rattle.spec_machine.specs.declared.call.Event.{Event}
use Rattle.spec_machine.specs.declared.call.Event.TheVariants.{Login, Call as Calls}
use Rattle.spec_machine.specs.declared.call.Reply.{Reply}
use Rattle.spec_machine.specs.declared.call.Reply.TheVariants.{Done, Value, Refused, Stopped, NoChannel, AddressCheck}
use Rattle.spec_machine.specs.declared.call.Reply.TheVariants.{NoJob, NoMemory, Device, Failed, DateRange}
use Rattle.spec_machine.proofs.Common.{sound_step, slot-map}
use Rattle.volume.specs.Common.{MemoryMap}
use Rattle.monitor.specs.Common.{OnlyDrops, IsState, Serves, AreKeyed, AreReading, UnderKeys, job_of, jobs_of}
use Rattle.monitor.specs.Common.{state_of, new_job}
use Rattle.monitor.specs.declared.job.Job.{Job}
use Rattle.monitor.proofs.common.Dropped.{leaves_none}
use Rattle.monitor.proofs.common.JobReaders.{reads_left}
use Rattle.volume.proofs.RenameWithin.Renamings.{map_set}
use Rattle.monitor.proofs.common.Numbers.{less as after}
use Rattle.monitor.proofs.common.Apart.{not_late}
use Rattle.spec_machine.specs.Jobs as machine

-- There is always a serial that no version has: the sum of all and one more.

differs : (a b : ℕ) → a < b → (a == b) ≡ false
differs a b less = grind (arith, nat_tests)

abbrev summed : List SpecVersion → ℕ
summed vs = total (λ v. v.serial) vs

none_has : (vs : List SpecVersion) (k : ℕ) → summed vs < k → has_serial k vs ≡ false
none_has [] k less = refl
none_has (v ∷ vs) k less = cc (differs v.serial k (omega (arith, less)), none_has vs k (omega (arith, less)))

abbrev pub next_serial : State → ℕ
next_serial s = summed (current_versions s ++ pinned_versions s) + 1

pub is_fresh : (s : State) → IsFresh s (next_serial s)
is_fresh s = none_has (current_versions s ++ pinned_versions s) (next_serial s) (omega arith)

-- An event that chooses no serial.
pub steps_on : (pack : Pack) (s : State) (event : Event) (reply : Reply) (after : State)
    → ((serial : ℕ) → step pack serial s event ≡ (reply, after)) → Steps pack s event reply after
steps_on pack s event reply after steps = (next_serial s, is_fresh s, steps (next_serial s))

pub is_done : (reply : Reply) → (reply ≡ Done) ⊎ (reply ≡ Done → ⊥)
is_done Done = inl refl
is_done (Value word) = inr (λ e. cc e)
is_done (Refused code) = inr (λ e. cc e)
is_done (Stopped status) = inr (λ e. cc e)
is_done NoChannel = inr (λ e. cc e)
is_done AddressCheck = inr (λ e. cc e)
is_done NoJob = inr (λ e. cc e)
is_done NoMemory = inr (λ e. cc e)
is_done Device = inr (λ e. cc e)
is_done Failed = inr (λ e. cc e)
is_done DateRange = inr (λ e. cc e)

-- what isn't done leaves what it leaves
pub settled_other : {A : Type 0} (reply : Reply) (done other : A) → (reply ≡ Done → ⊥)
    → settled reply done (λ r. other) ≡ (reply, other)
settled_other Done done other not_done = absurd (not_done refl)
settled_other (Value word) done other not_done = refl
settled_other (Refused code) done other not_done = refl
settled_other (Stopped status) done other not_done = refl
settled_other NoChannel done other not_done = refl
settled_other AddressCheck done other not_done = refl
settled_other NoJob done other not_done = refl
settled_other NoMemory done other not_done = refl
settled_other Device done other not_done = refl
settled_other Failed done other not_done = refl
settled_other DateRange done other not_done = refl

pub settled_with : {A : Type 0} (reply : Reply) (done : A) (other : Reply → A) → (reply ≡ Done → ⊥)
    → settled reply done other ≡ (reply, other reply)
settled_with Done done other not_done = absurd (not_done refl)
settled_with (Value word) done other not_done = refl
settled_with (Refused code) done other not_done = refl
settled_with (Stopped status) done other not_done = refl
settled_with NoChannel done other not_done = refl
settled_with AddressCheck done other not_done = refl
settled_with NoJob done other not_done = refl
settled_with NoMemory done other not_done = refl
settled_with Device done other not_done = refl
settled_with Failed done other not_done = refl
settled_with DateRange done other not_done = refl

pub settled_reply : {A : Type 0} (reply : Reply) (done : A) (other : Reply → A) → (settled reply done other).0 ≡ reply
settled_reply Done done other = refl
settled_reply (Value word) done other = refl
settled_reply (Refused code) done other = refl
settled_reply (Stopped status) done other = refl
settled_reply NoChannel done other = refl
settled_reply AddressCheck done other = refl
settled_reply NoJob done other = refl
settled_reply NoMemory done other = refl
settled_reply Device done other = refl
settled_reply Failed done other = refl
settled_reply DateRange done other = refl

pub contrary : {b : Bool} → b ≡ false → b ≡ true → ⊥
contrary not is = cc (not, is)

-- A service that serves is in a state.
pub in_state : (d : DiskState) (map : MemoryMap) (failed : Bool) (jobs : List (Option Job)) (P : Service → Type 0)
    → failed ≡ false → ((s : State) → IsState d map jobs s → P (Serving s))
    → (service : Service) → Serves d map failed jobs service → P service
in_state d map failed jobs P serves by Broken broken = absurd (contrary serves broken)
in_state d map failed jobs P serves by (Serving s) state = by s state.1

-- the state, by what the jobs stand for
pub state_is : (s : State) (w : UnderKeys) (jobs : List (Option Job)) → s.jobs ≡ jobs_of w jobs
    → s ≡ state_of s.files w jobs
state_is s w jobs is = λ i. record s { jobs = is i }

-- An event that leaves the disk and the files as they were, and at most drops what was being written, and unpins what
-- was read.
module _ (d : DiskState) (map map' : MemoryMap) (failed : Bool) (jobs jobs' : List (Option Job))
    (keyed : AreKeyed map'.pending jobs') (reading : AreReading map'.live jobs') (leaves : OnlyDrops map map') where
  pub same_files : (s : State) (state : IsState d map jobs s) → IsSound (state_of s.files state.under jobs')
      → IsState d map' jobs' (state_of s.files state.under jobs')
  same_files s state sound = record {
    files = state.files;
    serials = state.serials;
    under = state.under;
    versions = λ key p at. state.versions key p (leaves.stay key p at);
    absent = λ key p at new. state.absent key p (leaves.stay key p at) new;
    keyed = keyed;
    read = reads_left d map map' s.files state.under.read leaves state.read;
    reading = reading;
    jobs_are = refl;
    sound = sound;
  }

  -- it answers as the machine's row does, whatever is being written
  pub row : (pack : Pack) (event : Event) (reply : Reply) → ((serial : ℕ) (files : Files SpecVersion) (w : UnderKeys)
      → step pack serial (state_of files w jobs) event ≡ (reply, state_of files w jobs'))
      → failed ≡ false → (old : Service) → Serves d map failed jobs old → (new : Service)
      × Serves d map' failed jobs' new × Answers pack old event reply new
  row pack event reply by serves = in_state d map failed jobs (λ old. (new : Service) × Serves d map' failed jobs' new
      × Answers pack old event reply new) serves (λ s state.
      let after = state_of s.files state.under jobs' in
      let steps : (serial : ℕ) → step pack serial s event
      ≡ (reply, after) = λ serial. subst (λ t. step pack serial t event ≡ (reply, after))
      (sym (state_is s state.under jobs state.jobs_are)) (by serial s.files state.under) in
      let sound = subst (λ (r : Reply × State). IsSound r.1) (steps (next_serial s))
      (sound_step pack (next_serial s) s event (is_fresh s) state.sound) in
      (Serving after, (serves, same_files s state sound), inl (steps_on pack s event reply after steps)))

-- An event that leads to a state that the monitor stands for after it.
pub goes_on : (d : DiskState) (map' : MemoryMap) (failed : Bool) (jobs' : List (Option Job)) (pack : Pack)
    (event : Event) (reply : Reply) (s after : State) → failed ≡ false → IsSound s
    → ((serial : ℕ) → step pack serial s event ≡ (reply, after))
    → (IsSound after → IsState d map' jobs' after) → (new : Service) × Serves d map' failed jobs' new
    × Answers pack (Serving s) event reply new
goes_on d map' failed jobs' pack event reply s after serves sound steps state =
    let still = subst (λ (r : Reply × State). IsSound r.1) (steps (next_serial s))
    (sound_step pack (next_serial s) s event (is_fresh s) sound) in
    (Serving after, (serves, state still), inl (steps_on pack s event reply after steps))

-- An event that finds no memory leaves all as it was.
pub wanting : (d : DiskState) (map : MemoryMap) (failed : Bool) (jobs : List (Option Job)) (pack : Pack)
    (event : Event) (reply : Reply) → failed ≡ false → reply ≡ NoMemory
    → ((s : State) → is_plain ((step pack 0 s event).0) ≡ false) → ((s : State) → takes_memory s event ≡ true)
    → (old : Service) → Serves d map failed jobs old → (new : Service) × Serves d map failed jobs new
    × Answers pack old event reply new
wanting d map failed jobs pack event reply serves none plain takes =
    in_state d map failed jobs (λ old. (new : Service) × Serves d map failed jobs new
    × Answers pack old event reply new) serves
    (λ s state. (Serving s, (serves, state), inr (none, refl, plain s, takes s)))

-- Calls.

pub slot_of : (w : UnderKeys) (jobs : List (Option Job)) (n : ℕ) (o : Option Job) → slot jobs n ≡ o
    → slot (jobs_of w jobs) n ≡ option_map (job_of w) o
slot_of w jobs n o is = slot-map (job_of w) jobs n ∙ ap (option_map (job_of w)) is

-- a job's new record, as the machine has it
pub job_set : (files : Files SpecVersion) (w : UnderKeys) (jobs : List (Option Job)) (n : ℕ) (job : Job)
    → with_job (state_of files w jobs) n (job_of w job) ≡ state_of files w (slice_set jobs n (Some job))
job_set files w jobs n job = ap (λ js. record { files = files; jobs = js })
    (sym (map_set (option_map (job_of w)) jobs n (Some job)))

module _ (pack : Pack) (jobs : List (Option Job)) (n : ℕ) (call : Call) (moment : Moment) (serial : ℕ)
    (files : Files SpecVersion) (w : UnderKeys) where
  abbrev before : State
  before = state_of files w jobs

  pub late : last_date pack.layout < moment.date → step pack serial before (Calls n call moment) ≡ (DateRange, before)
  late past = ap (λ b. if b then (DateRange, before)
      else on_job before (job_at before n) (λ job. call_of pack serial before n job call moment))
      (after (last_date pack.layout) moment.date past)

  asked : moment.date ≤ last_date pack.layout → (o : Option Job) → slot jobs n ≡ o
      → step pack serial before (Calls n call moment)
      ≡ on_job before (option_map (job_of w) o) (λ job. call_of pack serial before n job call moment)
  asked timely o is =
      ap (λ b. if b then (DateRange, before)
      else on_job before (job_at before n) (λ job. call_of pack serial before n job call moment))
      (not_late (last_date pack.layout) moment.date timely)
      ∙ ap (λ o. on_job before o (λ job. call_of pack serial before n job call moment)) (slot_of w jobs n o is)

  pub no_job : moment.date ≤ last_date pack.layout → slot jobs n ≡ None → step pack serial before (Calls n call moment)
      ≡ (NoJob, before)
  no_job timely none = asked timely None none

  pub called : moment.date ≤ last_date pack.layout → (job : Job) → slot jobs n ≡ Some job
      → step pack serial before (Calls n call moment)
      ≡ call_of pack serial before n (job_of w job) call moment
  called timely job there = asked timely (Some job) there

-- if nothing is under any key

nothing_in : File
nothing_in = record { protection = 0; mode = 0; time = 0; date = 0; body = [] }

pub nothing : UnderKeys
nothing = record {
  written = λ key. record { place = record { ppn = 0; name = record { name = 0; ext = 0 } }; file = nothing_in };
  read = λ key. record { file = nothing_in; serial = 0 };
}

-- Logging in.

login_done : (pack : Pack) (jobs jobs' : List (Option Job)) (n ppn words : ℕ) → login_answer n words ≡ Done
    → jobs' ≡ slice_set jobs n (Some (new_job ppn words))
    → (serial : ℕ) (files : Files SpecVersion) (w : UnderKeys)
    → step pack serial (state_of files w jobs) (Login n ppn words) ≡ (Done, state_of files w jobs')
login_done pack jobs jobs' n ppn words answer set serial files w =
    ap (λ r. settled r (with_job (state_of files w jobs) n (job_of w (new_job ppn words))) (λ x. state_of files w jobs))
    answer
    ∙ ap (λ s. (Done, s)) (job_set files w jobs n (new_job ppn words) ∙ ap (state_of files w) (sym set))

login_refused : (pack : Pack) (jobs : List (Option Job)) (n ppn words : ℕ) (reply : Reply)
    → reply ≡ login_answer n words → (reply ≡ Done → ⊥)
    → (serial : ℕ) (files : Files SpecVersion) (w : UnderKeys)
    → step pack serial (state_of files w jobs) (Login n ppn words) ≡ (reply, state_of files w jobs)
login_refused pack jobs n ppn words reply answer not_done serial files w =
    ap (λ r. settled r (with_job (state_of files w jobs) n (job_of w (new_job ppn words))) (λ x. state_of files w jobs))
    (sym answer)
    ∙ settled_other reply (with_job (state_of files w jobs) n (job_of w (new_job ppn words)))
    (state_of files w jobs) not_done

module _ (pack : Pack) (d : DiskState) (map map' : MemoryMap) (failed : Bool) (jobs jobs' : List (Option Job))
    (n ppn words : ℕ) where
  abbrev Leads : Reply → Service → Type 0
  Leads reply old = (new : Service) × Serves d map' failed jobs' new × Answers pack old (Login n ppn words) reply new

  -- if nothing is changed
  kept : (reply : Reply) → (jobs' ≡ jobs) × (map' ≡ map) → ((old : Service) → Serves d map failed jobs old
      → (new : Service) × Serves d map failed jobs new × Answers pack old (Login n ppn words) reply new)
      → (old : Service) → Serves d map failed jobs old → Leads reply old
  kept reply same leads old state =
      let led = leads old state in (
        led.0,
        subst (λ js. Serves d map' failed js led.0) (sym same.0)
            (subst (λ m. Serves d m failed jobs led.0) (sym same.1) led.1),
        led.2,
      )

  pub login_answered : (reply : Reply) → failed ≡ false → AreKeyed map.pending jobs → AreKeyed map'.pending jobs'
      → AreReading map.live jobs → AreReading map'.live jobs' → OnlyDrops map map'
      → (reply ≡ login_answer n words) ⊎ ((reply ≡ NoMemory) × (login_answer n words ≡ Done))
      → (reply ≡ Done → jobs' ≡ slice_set jobs n (Some (new_job ppn words)))
      → ((reply ≡ Done → ⊥) → (jobs' ≡ jobs) × (map' ≡ map)) → (old : Service) → Serves d map failed jobs old
      → Leads reply old
  login_answered reply serves keyed keyed' reading reading' leaves (inl answer) set same = by_reply (is_done reply)
    where
      by_reply : (reply ≡ Done) ⊎ (reply ≡ Done → ⊥) → (old : Service) → Serves d map failed jobs old → Leads reply old
      by_reply (inl is) =
          subst (λ r. (old : Service) → Serves d map failed jobs old → Leads r old) (sym is)
          (row d map map' failed jobs jobs' keyed' reading' leaves pack (Login n ppn words) Done
          (login_done pack jobs jobs' n ppn words (sym answer ∙ is) (set is)) serves)
      by_reply (inr not_done) =
          kept reply (same not_done) (row d map map failed jobs jobs keyed reading (leaves_none map) pack
          (Login n ppn words) reply (login_refused pack jobs n ppn words reply answer not_done) serves)
  login_answered reply serves keyed keyed' reading reading' leaves (inr wants) set same =
      kept reply (same (λ e. cc (e, wants.0))) (wanting d map failed jobs pack (Login n ppn words) reply serves wants.0
      (λ s. ap (λ r. is_plain (settled r (with_job s n (machine_job ppn words)) (λ x. s)).0) wants.1) (λ s. refl))
    where
      machine_job : ℕ → ℕ → machine.SpecJob
      machine_job ppn words = job_of nothing (new_job ppn words)

-- The disk is the one that it was.
pub on_disk : {D : Type 0} (state : D → DiskState) (old new : D) (failed failed' : Bool) (map : MemoryMap)
    (jobs : List (Option Job)) (A : Service → Type 0) → (new ≡ old) × (failed' ≡ failed)
    → (after : Service) × Serves (state old) map failed jobs after × A after → (after : Service)
    × Serves (state new) map failed' jobs after × A after
on_disk state old new failed failed' map jobs A same led = (
  led.0,
  subst (λ disk. Serves (state disk) map failed' jobs led.0) (sym same.0)
      (subst (λ b. Serves (state old) map b jobs led.0) (sym same.1) led.1),
  led.2,
)
