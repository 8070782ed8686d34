-- How a monitor stands for a state of the file machine.
use Rattle.std.specs.Prelude.{◌≡◌, ℕ, ◌<◌, ◌≤◌, Bool, true, false, List, length, Option, None, Some}
use Rattle.std.specs.List.{AllByRecursion}
use Rattle.words36.specs.declared.moment.Moment.{Moment}
use Rattle.blockdisk.specs.Common.{DiskState}
use Rattle.spec_machine.specs.Common.{State, is_create, slot, current_versions, Service, Serving, Broken}
use Rattle.spec_machine.specs.Common.{HaveDistinctSerials, IsSound, last_date}
use Rattle.spec_image.specs.Common.{pack_of, times, file_at, without_serials, HasBody, place_of}
use Rattle.retrieval.specs.Common.{mode_number}
use Rattle.volume.specs.Common.{MemoryMap, pending_at, is_creation, IsPlaced, RestsAt}
use Rattle.volume.specs.declared.live.LiveVersion.{LiveVersion}
use Rattle.volume.specs.declared.pending.PendingVersion.{PendingVersion}
use Rattle.monitor.specs.Readers.{ArePinned, AreRead}
use Rattle.monitor.specs.Sides.{Writing, UnderKeys, kind_of, jobs_of, keys_of, sides, pins_of, readers}
use Rattle.monitor.specs.declared.channel.OpenChannel.{OpenChannel}
use Rattle.monitor.specs.declared.input.Input.{Input}
use Rattle.monitor.specs.declared.job.Job.{Job}
use Rattle.monitor.specs.declared.output.Output.{Output}

-- The disk can hold the date of a moment.
abbrev pub IsTimely : DiskState → Moment → Type 0
IsTimely d moment = d.honest → moment.date ≤ last_date (pack_of d).layout

-- What memory has, whatever the disk does.

-- 1 if there is one, else 0
abbrev pub present : Option PendingVersion → ℕ
present None = 0
present (Some p) = 1

-- The block that an output side writes next is one of a file, and a file that it creates is new in its directory.
pub record IsSide (pending : List (Option PendingVersion)) (o : Output) : Type 0 where
  pub starts : 0 < o.next
  pub kind : (p : PendingVersion) → pending_at pending o.pending.key ≡ Some p → is_creation p
      ≡ is_create (kind_of o.kind)

-- Each version that is being written belongs to one output side, and each output side writes one.
pub record AreKeyed (pending : List (Option PendingVersion)) (jobs : List (Option Job)) : Type 0 where
  pub once : (key : ℕ) → times key (keys_of (sides jobs)) ≡ present (pending_at pending key)
  pub each : AllByRecursion (IsSide pending) (sides jobs)

-- The block that a channel reads next is one of a file.
abbrev pub IsReader : OpenChannel → Type 0
IsReader c = (i : Input) → c.input ≡ Some i → 0 < i.next

-- This holds for the channels of a job, of which there are sixteen.
pub record HasReaders (job : Job) : Type 0 where
  pub each : (number : ℕ) (c : OpenChannel) → slot job.channels number ≡ Some c → IsReader c
  pub sixteen : length job.channels ≡ 16

-- Each version has as many readers as there are input sides that have it pinned.
pub record AreReading (live : List (Option LiveVersion)) (jobs : List (Option Job)) : Type 0 where
  pub pinned : ArePinned live (pins_of (readers jobs))
  pub each : (n : ℕ) (job : Job) → slot jobs n ≡ Some job → HasReaders job
  -- a slot for each number
  pub slots : length jobs ≡ 65

-- A version that is being written may be published under its name, in its directory; and no other one has its place.
pub record ArePlaced (c : MemoryMap) : Type 0 where
  pub each : (key : ℕ) (p : PendingVersion) → pending_at c.pending key ≡ Some p → IsPlaced c p
  pub single : (k key : ℕ) (p q : PendingVersion) → pending_at c.pending k ≡ Some p → pending_at c.pending key ≡ Some q
      → p.prime.ppn ≡ q.prime.ppn → p.prime.file ≡ q.prime.file → k ≡ key

-- What the disk has of it.

-- what is written is the version that the volume has
pub record IsWriting (d : DiskState) (p : PendingVersion) (w : Writing) : Type 0 where
  pub place : w.place ≡ place_of p.prime.ppn p.prime.file
  pub protection : w.file.protection ≡ p.prime.protection
  pub mode : w.file.mode ≡ mode_number p.prime.mode
  pub time : w.file.time ≡ p.prime.moment.minute
  pub date : w.file.date ≡ p.prime.moment.date
  pub words : length w.file.body ≡ p.version.words
  pub body : HasBody d.contents p.version.blocks w.file.body

-- Whatever a crash leaves of the disk stands for the files, each of which has a serial of its own. The jobs are these:
-- each output side writes what the volume writes under its key, and each input side reads the version that the volume
-- has under its key.
pub record IsState (d : DiskState) (map : MemoryMap) (jobs : List (Option Job)) (s : State) : Type 0 where
  pub files : RestsAt d (without_serials s.files)
  pub serials : HaveDistinctSerials (current_versions s)
  pub under : UnderKeys
  pub versions : (key : ℕ) (p : PendingVersion) → pending_at map.pending key ≡ Some p
      → IsWriting d p (under.written key)
  -- a name that is being created is absent
  pub absent : (key : ℕ) (p : PendingVersion) → pending_at map.pending key ≡ Some p → is_creation p ≡ true
      → file_at s.files (under.written key).place ≡ None
  pub keyed : AreKeyed map.pending jobs
  pub read : AreRead d map s.files under.read
  pub reading : AreReading map.live jobs
  pub jobs_are : s.jobs ≡ jobs_of under jobs
  pub sound : IsSound s

-- The service that the monitor stands for: it serves from a state, or has failed.
abbrev pub Serves : DiskState → MemoryMap → Bool → List (Option Job) → Service → Type 0
Serves d map failed jobs (Serving s) = (failed ≡ false) × IsState d map jobs s
Serves d map failed jobs Broken = failed ≡ true
