-- What every call promises, put together from what a call states of itself.
use Rattle.std.specs.Prelude.{◌&&◌, not, is_some}
use Rattle.std.proofs.Common.{◌≡◌, ℕ, Bool, true, false, List, Option, None, Some, refl, sym, ap, subst, ◌∙◌}
use Rattle.std.proofs.Common.{slice_set}
use Rattle.words36.specs.declared.moment.Moment.{Moment}
use Rattle.blockdisk.specs.Common.{Contents, DiskState, MayLeave}
use Rattle.spec_machine.specs.Common.{slot, Service, Answers}
use Rattle.spec_machine.specs.declared.call.Call.{Call}
use Rattle.spec_machine.specs.declared.call.Event.TheVariants.{Call as Calls}
use Rattle.spec_machine.specs.declared.call.Reply.{Reply}
use Rattle.spec_machine.specs.declared.call.Reply.TheVariants.{Done, NoJob, NoMemory, Device, Failed, Refused}
use Rattle.spec_machine.proofs.Common.{slot-set_other}
use Rattle.spec_image.specs.Common.{pack_of}
use Rattle.volume.specs.Common.{MemoryMap}
use Rattle.volume.specs.declared.live.LiveVersion.{LiveVersion}
use Rattle.volume.specs.declared.pending.PendingVersion.{PendingVersion}
use Rattle.monitor.specs.Common.{IsLight, KeepsCore, left_open, OnlyDrops, IsIdle, IsDecided, PublishesBy}
use Rattle.monitor.specs.Common.{IsPublishRow, CrashesAsRow, StillStands, IsAmong, IsServing, ServesJob, refused_with}
use Rattle.monitor.specs.Common.{IsRow, KeepsSides, KeepsReading, ClosesSide, publishes_at, Serves, AreKeyed}
use Rattle.monitor.specs.Common.{ArePlaced, AreReading, IsTimely}
use Rattle.monitor.specs.declared.channel.OpenChannel.{OpenChannel}
use Rattle.monitor.specs.declared.output.Output.{Output}
use Rattle.monitor.specs.declared.job.Job.{Job}
use Rattle.monitor.proofs.common.EventAnswers.{on_disk}
use Rattle.monitor.proofs.common.Called.{quiet_failed, quiet_same, still_serves, by_decided, decided_idle}
use Rattle.monitor.proofs.common.Called.{decided_serves}
use Rattle.monitor.proofs.CloseChannel.Closings.{dropping_keyed, dropping_reading, dropping_answered, row_answered}
use Rattle.monitor.proofs.CloseChannel.Closings.{row_crashes, publishing_failed, publishing_blamed}
use Rattle.monitor.proofs.CloseChannel.Closings.{publishing_counted, publishing_served}
use Rattle.monitor.proofs.common.PlacedVersions.{placed_left}
use Rattle.monitor.proofs.common.Refusals.{publishing_refused}
use Rattle.monitor.proofs.common.ServedCalls.{nobody, alone, alone_keyed, alone_reading}
use Rattle.monitor.proofs.common.Slots.{unchanged}
use Rattle.monitor.proofs.common.Untouched.{untouched_crashes}

-- what holds of the call that a match found
pub as_called : {D : Type 0} {state : D → DiskState} {disk disk' : D} {map map' : MemoryMap} {failed' : Bool}
    {job job' : Job} {call found : Call} {moment : Moment} {reply : Reply} → call ≡ found
    → ServesJob state disk disk' map map' failed' job job' found moment reply
    → ServesJob state disk disk' map map' failed' job job' call moment reply
as_called {D} {state} {disk} {disk'} {map} {map'} {failed'} {job} {job'} {call} {found} {moment} {reply} is serving =
    subst (λ (x : Call). ServesJob state disk disk' map map' failed' job job' x moment reply) (sym is) serving

-- a channel whose output side closes for good publishes
pub publishes_here : (job : Job) (number bits : ℕ) (c : OpenChannel) (o : Output) → ClosesSide job number bits c o
    → publishes_at (slot job.channels number) bits ≡ false → ⊥
publishes_here job number bits c o here quiet =
    let is : publishes_at (slot job.channels number) bits ≡ true = ap (λ x. publishes_at x bits) here.there
    ∙ (λ i. is_some (here.side i) && not (here.closes i) && not (here.keeps i)) in
    let wrong = sym is ∙ quiet in cc

module _ {D : Type 0} (state : D → DiskState) (only_now : (disk : D) (contents : Contents) → (state disk).honest
    → (state disk).left_since (state disk).clock contents → MayLeave (state disk) contents) where
  -- A call that doesn't call the disk, by what it states of memory, of the job and of its answer.
  module _ (disk disk' : D) (map map' : MemoryMap) (failed failed' : Bool) (job job' : Job) (call : Call)
      (moment : Moment) (reply : Reply)
      (alive : failed ≡ false) (untouched : (disk' ≡ disk) × (failed' ≡ failed)) (only : (reply ≡ Failed → ⊥)
      × (reply ≡ Device → ⊥))
      (placed : ArePlaced map') (room : IsLight call (Some job) → reply ≡ NoMemory → ⊥) (kept : KeepsCore call
      → map' ≡ map) (memory : reply ≡ NoMemory → (map' ≡ map) × (job' ≡ job))
      (refused : (code : ℕ) → reply ≡ Refused code → job' ≡ refused_with call job code)
      (decided : IsDecided reply → (map' ≡ map) × (job' ≡ job))
      (jobs : List (Option Job)) (n : ℕ) (among : IsAmong map jobs n job) where
    abbrev pub jobs' : List (Option Job)
    jobs' = slice_set jobs n (Some job')

    pub quiet_serves : AreKeyed map'.pending jobs' → AreReading map'.live jobs'
        → ((state disk').honest → (old : Service) → Serves (state disk) map false jobs old
        → (new : Service) × Serves (state disk) map' false jobs' new
        × Answers (pack_of (state disk)) old (Calls n call moment) reply new)
        → IsServing state disk disk' map map' failed' jobs jobs' n call moment reply
    quiet_serves keyed reading answered = record {
      keyed = λ serves. keyed;
      placed = λ serves. placed;
      reading = λ serves. reading;
      others = λ m other. slot-set_other jobs n m (Some job') other;
      answered = λ honest old serves.
          on_disk state disk disk' false failed' map' jobs'
          (Answers (pack_of (state disk)) old (Calls n call moment) reply) (untouched.0, untouched.1 ∙ alive)
          (answered honest old serves);
      crash = untouched_crashes state only_now disk disk' untouched.0 map jobs n call moment;
      idle = λ idle. untouched.0;
      light = λ light. (room (subst (IsLight call) among.there light), untouched.0);
      kept = kept;
      memory = λ none. (
        untouched.0,
        (memory none).0,
        untouched.1 ∙ alive,
        unchanged jobs jobs' n job job' among.there refl (memory none).1,
      );
      decided = λ is. (
        untouched.0,
        (decided is).0,
        untouched.1 ∙ alive,
        unchanged jobs jobs' n job job' among.there refl (decided is).1,
      );
      refused = λ code is.
          record { job = job; there = among.there; jobs_are = ap (λ j. slice_set jobs n (Some j)) (refused code is) };
      failed = quiet_failed failed failed' reply alive untouched.1 only;
      blamed = λ honest is. absurd (only.0 is);
      counted = λ is. absurd (only.1 is);
      served = λ serves. ap (λ d. (state d).failures) untouched.0;
      same = quiet_same state disk disk' untouched.0;
    }

  -- A call that has to do with its job alone.
  pub alone_serves : (disk : D) (map : MemoryMap) (failed : Bool) (job job' : Job) (call : Call) (moment : Moment)
      (reply : Reply) → failed ≡ false → ArePlaced map → IsTimely (state disk) moment
      → IsRow job job' call reply
      → ((pending : List (Option PendingVersion)) → KeepsSides pending pending job job')
      → ((live : List (Option LiveVersion)) → KeepsReading live live job job') → (reply ≡ Failed → ⊥)
      × (reply ≡ Device → ⊥) × (reply ≡ NoMemory → ⊥)
      → ((code : ℕ) → reply ≡ Refused code → job' ≡ refused_with call job code) → (IsDecided reply → job' ≡ job)
      → ServesJob state disk disk map map failed job job' call moment reply
  alone_serves disk map failed job job' call moment reply alive placed timely row keeps reads
      only refused decided jobs n among =
      let set = slice_set jobs n (Some job') in
      quiet_serves disk disk map map failed failed job job' call moment reply alive (refl, refl)
      (only.0, only.1) placed (λ light. only.2) (λ kept. refl) (λ none. absurd (only.2 none)) refused
      (λ is. (refl, decided is)) jobs n among
      (alone_keyed (state disk) map false jobs n call moment refl timely set job job' among.keyed among.there refl
      (keeps map.pending))
      (alone_reading (state disk) map false jobs n call moment refl timely set job job' among.reading among.there refl
      (reads map.live))
      (λ honest. alone (state disk) map false jobs n call moment refl timely honest set job job' reply
      among.keyed among.reading among.there refl (keeps map.pending) (reads map.live) row)

  -- A call by which versions are dropped or unpinned, and which calls for nothing else.
  pub dropping_serves : (disk disk' : D) (map map' : MemoryMap) (failed failed' : Bool) (job job' : Job)
      (call : Call) (moment : Moment) (reply : Reply) → failed ≡ false → (disk' ≡ disk) × (failed' ≡ failed)
      → ArePlaced map → IsTimely (state disk) moment → IsRow job job' call reply → KeepsSides map.pending
      map'.pending job job'
      → KeepsReading map.live map'.live job job'
      → OnlyDrops map map' → (reply ≡ Failed → ⊥) × (reply ≡ Device → ⊥) × (reply ≡ NoMemory → ⊥)
      → ((code : ℕ) → reply ≡ Refused code → ⊥) → (IsDecided reply → (map' ≡ map) × (job' ≡ job))
      → (KeepsCore call → ⊥)
      → ServesJob state disk disk' map map' failed' job job' call moment reply
  dropping_serves disk disk' map map' failed failed' job job' call moment reply alive untouched placed
      timely row keeps reads leaves only refused decided changes jobs n among =
      let set = slice_set jobs n (Some job') in
      quiet_serves disk disk' map map' failed failed' job job' call moment reply alive untouched (only.0, only.1)
      (placed_left map map' leaves placed) (λ light. only.2) (λ kept. absurd (changes kept))
      (λ none. absurd (only.2 none)) (λ code is. absurd (refused code is)) decided jobs n among
      (dropping_keyed (state disk) map map' false jobs set n job job' call moment refl timely among.there
      refl keeps reads among.keyed)
      (dropping_reading (state disk) map map' false jobs set n job job' call moment refl timely among.there
      refl keeps reads among.reading)
      (λ honest old serves. dropping_answered (state disk) map map' false jobs set n job job'
      call moment refl timely among.there refl keeps reads
      (subst (λ x. (state x).honest) untouched.0 honest) reply among.keyed among.reading leaves row old serves)

  -- Nobody is logged in by that number.
  pub nobody_serves : (disk : D) (map : MemoryMap) (failed : Bool) (jobs jobs' : List (Option Job)) (n : ℕ)
      (call : Call) (moment : Moment) → failed ≡ false → IsTimely (state disk) moment
      → AreKeyed map.pending jobs → ArePlaced map → AreReading map.live jobs → slot jobs n ≡ None → jobs' ≡ jobs
      → IsServing state disk disk map map failed jobs jobs' n call moment NoJob
  nobody_serves disk map failed jobs jobs' n call moment alive timely keyed placed reading none same = record {
    keyed = λ serves. subst (AreKeyed map.pending) (sym same) keyed;
    placed = λ serves. placed;
    reading = λ serves. subst (AreReading map.live) (sym same) reading;
    others = λ m other. ap (λ js. slot js m) same;
    answered = λ honest old serves.
        on_disk state disk disk false failed map jobs' (Answers (pack_of (state disk)) old
        (Calls n call moment) NoJob)
        (refl, alive)
        (nobody (state disk) map false jobs n call moment refl timely honest jobs' keyed reading none same old serves);
    crash = untouched_crashes state only_now disk disk refl map jobs n call moment;
    idle = λ idle. refl;
    light = λ light. (λ e. cc e, refl);
    kept = λ kept. refl;
    memory = λ e. cc e;
    decided = λ is. (refl, refl, alive, same);
    refused = λ code e. cc e;
    failed = quiet_failed failed failed NoJob alive refl (λ e. cc e, λ e. cc e);
    blamed = λ honest e. cc e;
    counted = λ e. cc e;
    served = λ serves. refl;
    same = quiet_same state disk disk refl;
  }

  -- The job was taken out of its slot, and put back.
  pub set_serves : (disk disk' : D) (map map' : MemoryMap) (failed' : Bool) (jobs jobs' : List (Option Job))
      (n : ℕ) (job job' : Job) (call : Call) (moment : Moment) (reply : Reply)
      → jobs' ≡ slice_set jobs n (Some job')
      → IsServing state disk disk' map map' failed' jobs (slice_set jobs n (Some job')) n call moment reply
      → IsServing state disk disk' map map' failed' jobs jobs' n call moment reply
  set_serves disk disk' map map' failed' jobs jobs' n job job' call moment reply set serving = subst
      (λ js. IsServing state disk disk' map map' failed' jobs js n call moment reply) (sym set) serving

  -- A call that publishes what the output side of a channel has written.
  pub publishing_serves : (disk disk' : D) (map between map' : MemoryMap) (failed failed' : Bool)
      (channel : OpenChannel) (o : Output) (last : Option (List ℕ)) (job job' : Job) (number : ℕ) (call : Call)
      (moment : Moment) (reply : Reply) → failed ≡ false → ArePlaced map → IsTimely (state disk) moment
      → PublishesBy (state disk) (state disk') map between failed failed' channel o last reply
      → (IsIdle reply → (disk' ≡ disk) × (map' ≡ map) × (failed' ≡ failed))
      → ((reply ≡ Done → ⊥) → job' ≡ left_open job number channel reply) → StillStands map map' failed' job job'
      → IsPublishRow (state disk) (state disk') map map' failed' job job' call reply
      → CrashesAsRow (state disk) (state disk') map job call
      → (IsLight call (Some job) → ⊥) → (KeepsCore call → ⊥)
      → ServesJob state disk disk' map map' failed' job job' call moment reply
  publishing_serves disk disk' map between map' failed failed' channel o last job job' number call moment reply alive
      placed timely publishes idle kept stands row crash heavy changes jobs n among =
      let is = publishes.answered in
      let d = state disk in
      let d' = state disk' in
      let set = slice_set jobs n (Some job') in
      let still = λ (works : failed' ≡ false). stands jobs n among.there among.keyed placed among.reading works in
      let fails = publishing_failed d d' map between failed failed' channel o last reply is in
      record {
        keyed = λ works. (still works).0;
        placed = λ works. (still works).1;
        reading = λ works. (still works).2;
        others = λ m other. slot-set_other jobs n m (Some job') other;
        answered = λ honest. row_answered d d' map map' jobs set n job job' moment among.there refl
            timely false failed' call reply refl placed honest row;
        crash = row_crashes d d' map map' jobs set n job job' moment among.there refl timely call crash;
        idle = λ idles. (idle idles).0;
        light = λ light. absurd (heavy (subst (IsLight call) among.there light));
        kept = λ kept. absurd (changes kept);
        memory = λ none.
            let same = idle (subst IsIdle (sym none) tt) in
            let left = kept (λ e. let wrong = sym none ∙ e in cc) ∙ ap (left_open job number channel) none in (
              same.0,
              same.1,
              still_serves false failed' reply refl fails none,
              unchanged jobs set n job job' among.there refl left,
            );
        decided = λ decided.
            let same = idle (decided_idle reply decided) in
            let left = kept (λ e. subst IsDecided e decided)
            ∙ by_decided (λ r. left_open job number channel r ≡ job) reply decided refl refl refl refl in (
              same.0,
              same.1,
              decided_serves false failed' reply refl fails decided,
              unchanged jobs set n job job' among.there refl left,
            );
        refused = λ code refused.
            absurd (publishing_refused d d' map between failed failed' channel o last code reply is refused);
        failed = fails;
        blamed = publishing_blamed d d' map between failed failed' channel o last reply alive is;
        counted = publishing_counted d d' map between failed failed' channel o last reply is;
        served = publishing_served d d' map between failed failed' channel o last reply is
            (λ idles i. (state ((idle idles).0 i)).failures);
        same = publishes.same;
      }
