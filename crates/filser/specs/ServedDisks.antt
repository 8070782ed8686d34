-- What a run makes of the disk of an image. `begun` is the disk before its first call.
use Rattle.std.specs.Prelude.{◌≡◌, ◌⊎◌, ◌+◌, ◌*◌, ◌≤◌, ℕ, List, Option, Result, Ok, Err, false, max, if◌then◌else◌}
use Rattle.blockdisk.specs.Common.{DiskState, LeavesOnly, NoneOpen, SameDisk, Still, one_more}
use Rattle.changeset.specs.Common.{IsRecovered}
use Rattle.spec_image.specs.Common.{File, Files, pack_of, StandsOn, Stands}
use Rattle.volume.specs.Common.{NamesInSpace, Refuses, StandsLikeBefore}
use Rattle.volume.specs.declared.error.VolumeError.{VolumeError}
use Rattle.volume.specs.declared.error.VolumeError.TheVariants.{Device, NoMemory}
use Rattle.monitor.specs.Common.{ServesFiles, no_jobs, MonitorState}
use Rattle.commands.specs.Common.{Machine, machine_of}
use Rattle.commands.specs.declared.answer.Tally.{Tally}
use Rattle.commands.specs.declared.error.SessionError.{SessionError}
use Rattle.salvage.specs.Common.{failed_by}
use Rattle.filser.specs.Lines.{IsLine}
use Rattle.filser.specs.Refusals.{start_text, start_code}
use Rattle.filser.specs.Statuses.{status_code}
use Rattle.filser.specs.declared.status.Status.{Status}
use Rattle.filser.specs.declared.status.Status.TheVariants.{Fault}
use Rattle.filser.specs.declared.task.Task.{Task}
use Rattle.filser.specs.declared.task.Task.TheVariants.{Check}

-- a monitor as a service of files, over disks of any kind
abbrev pub machine_over : {D : Type 0} → (D → DiskState) → MonitorState D → Machine
machine_over state m = machine_of (state m.disk) m.map m.failed m.jobs

-- the status of a run whose lines were counted in this tally, or which broke off
abbrev pub IsEnding : Status → Result Tally SessionError → Type 0
IsEnding status (Ok tally) = status_code status ≡ max (if tally.refused then 1 else 0) (if tally.broke then 4 else 0)
IsEnding status (Err error) = status ≡ Fault

-- A start accepted the disk: it stood for these files, which are served now, in the same layout. Nothing but the
-- recovery was written, and at each moment a crash left what stands for the same files.
pub record IsStarted {D : Type 0} (state : D → DiskState) (begun : DiskState) (m : MonitorState D) : Type 0 where
  pub files : Files File
  pub stood : StandsOn (pack_of (state m.disk)) begun.contents files
  pub serves : ServesFiles (state m.disk) m.map m.failed m.jobs files
  pub crash : LeavesOnly begun (state m.disk) (StandsLikeBefore begun)
  pub recovered : IsRecovered begun.size begun.contents (state m.disk).contents
  pub settled : NoneOpen (state m.disk)

-- A service was started with nobody logged in, and went from its first value to its last as `IsTranscript` says; the
-- disk of the last is handed back.
pub record IsServed {D : Type 0} (state : D → DiskState) (begun : DiskState) (end : D) (status : Status)
    (IsTranscript : MonitorState D → MonitorState D → Result Tally SessionError → Type 0) : Type 0 where
  pub first : MonitorState D
  pub last : MonitorState D
  pub result : Result Tally SessionError
  pub serving : first.failed ≡ false
  pub nobody : first.jobs ≡ no_jobs
  pub size : (state first.disk).size ≡ begun.size
  pub failures : (state first.disk).failures ≡ begun.failures
  pub was_honest : (state end).honest → begun.honest
  pub started : (state end).honest → IsStarted state begun first
  pub transcript : IsTranscript first last result
  pub ends : IsEnding status result
  pub ended : end ≡ last.disk

-- A start refused the disk for a fault that is on it, or for lack of memory or a device fault; if the disk stood for
-- files, only the latter two are possible. Except after a device fault the disk is unchanged, or only recovered. At
-- each moment a crash left what stands for the same files.
pub record IsTurnedDown (begun end : DiskState) (error : VolumeError) : Type 0 where
  pub refuses : Refuses begun.size end.contents error
  pub faultless : (files : Files File) → Stands begun.size begun.contents files
      → (error ≡ NoMemory) ⊎ (error ≡ Device)
  pub kept : (error ≡ Device → ⊥) → Still begun end ⊎ IsRecovered begun.size begun.contents end.contents
  pub crash : LeavesOnly begun end (StandsLikeBefore begun)

-- The same, with what holds for every disk: a refusal for the device is caused by a device fault.
pub record IsRefusedBy (begun end : DiskState) (error : VolumeError) : Type 0 where
  pub size : end.size ≡ begun.size
  pub named : NamesInSpace begun.size error
  pub failed : error ≡ Device → end.failures ≡ one_more begun.failures
  pub sound : (error ≡ Device → ⊥) → end.failures ≡ begun.failures
  pub was_honest : end.honest → begun.honest
  pub why : end.honest → IsTurnedDown begun end error

-- No service was started, as is printed, and nothing was read.
pub record IsUnserved (begun end : DiskState) (source left sink full : Option (List ℕ)) (status : Status)
    : Type 0 where
  pub error : VolumeError
  pub refused : IsRefusedBy begun end error
  pub said : IsLine sink full status (start_code error) (start_text error)
  pub unread : left ≡ source

-- A disk was read to find what its faults cost, and nothing was written: each time that a block couldn't be read is a
-- failure.
pub record IsSearched (old new : DiskState) : Type 0 where
  pub same : SameDisk old new
  pub still : new.honest → Still old new
  pub unread : ℕ
  pub few : unread ≤ 2 * old.size + 2
  pub failures : new.failures ≡ failed_by unread old.failures

-- What a task did with a disk that was refused: nothing, or a check searched it.
abbrev pub IsGivenBack : {D : Type 0} → (D → DiskState) → Task → D → D → Type 0
IsGivenBack state task refused end =
    (end ≡ refused) ⊎ ((task ≡ Check) × IsSearched (state refused) (state end))
