-- What every call promises, whichever it is.
use Rattle.std.specs.Prelude.{◌≡◌, ◌⊎◌, ◌↔◌, ℕ, Bool, false, IsTrue, List, Option, Some, slice_set}
use Rattle.words36.specs.declared.moment.Moment.{Moment}
use Rattle.blockdisk.specs.Common.{DiskState, SameDisk, one_more}
use Rattle.spec_machine.specs.Common.{slot, Service, Answers}
use Rattle.spec_image.specs.Common.{pack_of}
use Rattle.spec_machine.specs.declared.call.Call.{Call}
use Rattle.spec_machine.specs.declared.call.Event.TheVariants.{Call as Calls}
use Rattle.spec_machine.specs.declared.call.Reply.{Reply}
use Rattle.spec_machine.specs.declared.call.Reply.TheVariants.{NoMemory, Device, Failed, Refused}
use Rattle.volume.specs.Common.{MemoryMap, IsSoundMemory}
use Rattle.monitor.specs.Calls.{IsLight, KeepsCore}
use Rattle.monitor.specs.Events.{CallCrashes, IsIdle, IsDecided}
use Rattle.monitor.specs.Refusals.{IsRefused}
use Rattle.monitor.specs.Serves.{IsTimely, Serves, AreKeyed, ArePlaced, AreReading}
use Rattle.monitor.specs.declared.job.Job.{Job}

-- The job of number n among these is this one, and what they write and read is what the volume has.
pub record IsAmong (map : MemoryMap) (jobs : List (Option Job)) (n : ℕ) (job : Job) : Type 0 where
  pub there : slot jobs n ≡ Some job
  pub keyed : AreKeyed map.pending jobs
  pub reading : AreReading map.live jobs

-- What a call may rely on: the volume serves, and the job that calls is one of those that it knows.
pub record IsCallReady (d : DiskState) (map : MemoryMap) (failed : Bool) (job : Job) : Type 0 where
  pub sound : IsSoundMemory d map failed
  pub alive : failed ≡ false
  pub placed : ArePlaced map
  pub jobs : List (Option Job)
  pub number : ℕ
  pub among : IsAmong map jobs number job

-- What a call by the job of number n promises of the volume, whose disk, memory and failure are these before and after
-- it, and of the jobs.
pub record IsServing {D : Type 0} (state : D → DiskState) (disk disk' : D) (map map' : MemoryMap) (failed' : Bool)
    (jobs jobs' : List (Option Job)) (n : ℕ) (call : Call) (moment : Moment) (reply : Reply) : Type 0 where
  -- If the volume hasn't failed, it knows what the jobs write and read.
  pub keyed : failed' ≡ false → AreKeyed map'.pending jobs'
  pub placed : failed' ≡ false → ArePlaced map'
  pub reading : failed' ≡ false → AreReading map'.live jobs'
  -- No other job is changed.
  pub others : (m : ℕ) → (m ≡ n → ⊥) → slot jobs' m ≡ slot jobs m
  -- It answers as the machine does, and leaves what the machine leaves; a crash leaves the files from before, or those
  -- that the machine leaves.
  pub answered : (state disk').honest → (old : Service) → Serves (state disk) map false jobs old
      → (new : Service) × Serves (state disk') map' failed' jobs' new
      × Answers (pack_of (state disk)) old (Calls n call moment) reply new
  pub crash : CallCrashes (state disk) (state disk') map jobs n call moment
  -- Which answers, and which calls, leave the disk and the rest alone, on every disk.
  pub idle : IsIdle reply → disk' ≡ disk
  pub light : IsLight call (slot jobs n) → (reply ≡ NoMemory → ⊥) × (disk' ≡ disk)
  pub kept : KeepsCore call → map' ≡ map
  pub memory : reply ≡ NoMemory → (disk' ≡ disk) × (map' ≡ map) × (failed' ≡ false) × (jobs' ≡ jobs)
  pub decided : IsDecided reply → (disk' ≡ disk) × (map' ≡ map) × (failed' ≡ false) × (jobs' ≡ jobs)
  pub refused : (code : ℕ) → reply ≡ Refused code → IsRefused call n code jobs jobs'
  -- It fails with the volume, and blames the device if that failed.
  pub failed : IsTrue failed' ↔ ((reply ≡ Device) ⊎ (reply ≡ Failed))
  pub blamed : (state disk').honest → reply ≡ Failed → ⊥
  pub counted : reply ≡ Device → (state disk').failures ≡ one_more (state disk).failures
  pub served : (reply ≡ Device → ⊥) → (state disk').failures ≡ (state disk).failures
  pub same : SameDisk (state disk) (state disk')

-- The same for the job alone, whichever jobs it is among.
abbrev pub ServesJob : {D : Type 0} → (D → DiskState) → (disk disk' : D) → (map map' : MemoryMap) → (failed' : Bool)
    → (job job' : Job) → Call → Moment → Reply → Type 0
ServesJob state disk disk' map map' failed' job job' call moment reply =
    (jobs : List (Option Job)) (n : ℕ) → IsAmong map jobs n job
    → IsServing state disk disk' map map' failed' jobs (slice_set jobs n (Some job')) n call moment reply

-- at any moment that the disk can hold
abbrev pub ServesAlways : {D : Type 0} → (D → DiskState) → (disk disk' : D) → (map map' : MemoryMap)
    → (failed' : Bool) → (job job' : Job) → Call → Reply → Type 0
ServesAlways state disk disk' map map' failed' job job' call reply =
    (moment : Moment) → IsTimely (state disk) moment → ServesJob state disk disk' map map' failed' job job' call
    moment reply
