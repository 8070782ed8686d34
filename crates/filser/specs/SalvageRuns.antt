-- What became of an image whose whole files were to be written to files of the host.
use Rattle.std.specs.Prelude.{◌≡◌, ◌⊎◌, ◌+◌, ◌*◌, ◌<◌, ◌≤◌, ℕ, List, [], Option, None, Result, MatchResult}
use Rattle.std.specs.Prelude.{codes, length}
use Rattle.blockdisk.specs.Common.{Contents, DiskState, Still, one_more, Memory, held, memory_state}
use Rattle.changeset.specs.Common.{OnlyReads}
use Rattle.imagefile.specs.Common.{begun_image, Unseen}
use Rattle.imagefile.specs.declared.form.Form.{Form}
use Rattle.spec_image.specs.Common.{File, Files, SpecHome, IsHome, IsVolumeSize, SettledStands, Stands}
use Rattle.volume.specs.declared.error.VolumeError.{VolumeError}
use Rattle.commands.specs.declared.answer.Tally.{Tally}
use Rattle.commands.specs.declared.error.SessionError.{SessionError}
use Rattle.salvage.specs.Common.{AreLengths, AreTheFiles, HasHome, IsCopyOf, IsSurveyed, copy_findings, failed_by}
use Rattle.salvage.specs.Common.{held_to}
use Rattle.salvage.specs.declared.copied.CopyFaults.{CopyFaults}
use Rattle.salvage.specs.declared.error.SalvageError.{SalvageError}
use Rattle.salvage.specs.declared.error.SalvageError.TheVariants.{NotVolume, Device, NoMemory}
use Rattle.salvage.specs.declared.finding.Finding.{Finding}
use Rattle.salvage.specs.declared.saved.SavedFile.{SavedFile}
use Rattle.salvage.specs.declared.search.Search.TheVariants.{Every, Named}
use Rattle.collection.specs.Common.{FileAct, IsSalvageRun}
use Rattle.filser.specs.Denials.{IsExplained}
use Rattle.filser.specs.Hosts.{HostFacts, IsOpened}
use Rattle.filser.specs.Images.{IsCut, IsDeniedCut}
use Rattle.filser.specs.Lines.{IsLine}
use Rattle.filser.specs.Refusals.{start_code, start_text}
use Rattle.filser.specs.ServedDisks.{IsEnding}
use Rattle.filser.specs.Views.{Views}
use Rattle.filser.specs.declared.disks.Disks.{Disks}
use Rattle.filser.specs.declared.disks.Disks.TheVariants.{Unserved}
use Rattle.filser.specs.declared.fault.ImageFault.{ImageFault}
use Rattle.filser.specs.declared.host.Access.TheVariants.{Read}
use Rattle.filser.specs.declared.status.Status.{Status}
use Rattle.filser.specs.declared.status.Status.TheVariants.{Done, Fault}
use Rattle.filser.specs.declared.task.SalvageTask.{SalvageTask}
use Rattle.volume.specs.declared.error.VolumeError.TheVariants as volume

-- why there is no survey, as a start's error
abbrev pub start_error : SalvageError → VolumeError
start_error NotVolume = volume.NotVolume
start_error Device = volume.Device
start_error NoMemory = volume.NoMemory

-- A copy was surveyed, and what was found was written to files of the host and printed as lines: the files in their
-- place, the doubtful ones, and those that no directory names, at blocks that the task requires to be searched.
pub record AreFound (before after : List FileAct) (task : SalvageTask) (sink full : Option (List ℕ))
    (copy last : Memory) (faults : CopyFaults) (files doubtful unnamed : List SavedFile) (status : Status)
    : Type 0 where
  pub layout : ℕ
  pub findings : List Finding
  pub middle : Memory
  pub result : Result Tally SessionError
  -- the layout of the home copy, or layout 2 if neither copy is valid
  pub layout_is : (home : SpecHome) → IsHome (memory_state copy).size (held copy.blocks) home → layout ≡ home.layout
  pub no_layout : ((home : SpecHome) → IsHome (memory_state copy).size (held copy.blocks) home → ⊥) → layout ≡ 2
  pub surveyed : IsSurveyed (memory_state copy).size layout (held copy.blocks) task.search files doubtful unnamed
      findings
  -- nothing was found wrong only with a copy that stands for files
  pub silent : findings ≡ [] → (stored : Files File)
      × SettledStands (memory_state copy).size (held copy.blocks) stored
  -- the words were read from the very copy
  pub read : OnlyReads (memory_state copy) (memory_state middle)
  pub saved : IsSalvageRun memory_state task.export (copy_findings faults) files doubtful unnamed findings
      sink full (before, middle) (after, last) result
  pub ends : IsEnding status result
  -- status 0 only of a copy that is whole and stands for files, unless those of one directory were wanted
  pub accepted : status ≡ Done → task.export.owner ≡ None → (copy_findings faults ≡ []) × ((stored : Files File)
      × SettledStands (memory_state copy).size (held copy.blocks) stored)

-- These are the files that contents stand for: all are in their place, and no others were found, unless free blocks
-- were searched too.
pub record AreAllFound (contents : Contents) (task : SalvageTask) (files doubtful unnamed : List SavedFile)
    (stored : Files File) : Type 0 where
  pub in_place : AreTheFiles contents files stored
  pub sure : doubtful ≡ []
  pub alone : (task.search ≡ Every → ⊥) → unnamed ≡ []

-- the task without a search for files that no directory names
abbrev pub named_only : SalvageTask → SalvageTask
named_only task = record { export = task.export; search = Named }

-- Memory ran out in the search: only what directories name was found and saved, and that is said at the end, unless the
-- run broke off before.
pub record ArePartFound (before after : List FileAct) (task : SalvageTask) (sink full : Option (List ℕ))
    (copy last : Memory) (faults : CopyFaults) (files doubtful unnamed : List SavedFile) (status : Status)
    : Type 0 where
  pub between : Option (List ℕ)
  pub reached : Status
  pub found : AreFound before after (named_only task) sink between copy last faults files doubtful unnamed reached
  pub said : MatchResult found.result (λ tally. IsLine between full status 4 (codes "?No memory: search incomplete"))
      (λ error. (full ≡ between) × (status ≡ Fault))

-- No survey was made of a copy, which was read and is `last` now, as is printed: memory ran out, or the copy failed.
pub record IsUnsurveyed (copy last : Memory) (sink full : Option (List ℕ)) (status : Status) : Type 0 where
  pub error : SalvageError
  pub read : OnlyReads (memory_state copy) (memory_state last)
  pub cause : ((error ≡ NoMemory) × (last.failures ≡ copy.failures))
      ⊎ ((error ≡ Device) × (last.failures ≡ one_more copy.failures))
  pub said : IsLine sink full status (start_code (start_error error)) (start_text (start_error error))

-- What was found in a copy, all or as far as memory went, was saved, and is right.
abbrev pub IsSaved : List FileAct → List FileAct → SalvageTask → Option (List ℕ) → Option (List ℕ) → Memory
    → Memory → CopyFaults → Status → (List SavedFile → List SavedFile → List SavedFile → Type 0) → Type 0
IsSaved before after task sink full copy last faults status AreRight =
    (files : List SavedFile) × (doubtful : List SavedFile) × (unnamed : List SavedFile)
    × (AreFound before after task sink full copy last faults files doubtful unnamed status
    ⊎ ((task.search ≡ Named → ⊥)
    × ArePartFound before after task sink full copy last faults files doubtful unnamed status))
    × AreRight files doubtful unnamed

-- The files that were found are exactly those that a copy stands for, if it stands for any.
abbrev pub AreExact : SalvageTask → Memory → List SavedFile → List SavedFile → List SavedFile → Type 0
AreExact task copy files doubtful unnamed = (stored : Files File)
    → SettledStands (length copy.blocks) (held copy.blocks) stored
    → AreAllFound (held copy.blocks) task files doubtful unnamed stored

-- This became of a copy, which is `last` at the end.
abbrev pub IsCopySalvaged : List FileAct → List FileAct → SalvageTask → Option (List ℕ) → Option (List ℕ) → Memory
    → Memory → CopyFaults → Status → Type 0
IsCopySalvaged before after task sink full copy last faults status =
    IsSaved before after task sink full copy last faults status (AreExact task copy)
    ⊎ ((after ≡ before) × IsUnsurveyed copy last sink full status)

-- The same without a search for files that no directory names.
abbrev pub IsPartSalvaged : List FileAct → List FileAct → SalvageTask → Option (List ℕ) → Option (List ℕ) → Memory
    → Memory → CopyFaults → Status → Type 0
IsPartSalvaged before after task sink full copy last faults status =
    ((files : List SavedFile) × (doubtful : List SavedFile) × (unnamed : List SavedFile)
    × ArePartFound before after task sink full copy last faults files doubtful unnamed status
    × AreExact task copy files doubtful unnamed)
    ⊎ ((after ≡ before) × IsUnsurveyed copy last sink full status)

-- The disk, which `tail` bytes follow, was copied, and this became of the copy, which is `last` at the end. Each time
-- that a block couldn't be read is a failure of the disk.
pub record IsCopied (before after : List FileAct) (task : SalvageTask) (tail : ℕ) (sink full : Option (List ℕ))
    (begun end : DiskState) (status : Status) : Type 0 where
  pub copy : Memory
  pub last : Memory
  pub faults : CopyFaults
  pub copied : end.honest → IsCopyOf begun copy faults
  pub lengths : AreLengths begun.size tail (length copy.blocks) faults
  pub few : faults.unread ≤ 2 * begun.size + 2
  pub failures : end.failures ≡ failed_by faults.unread begun.failures
  -- if all was read, and the disk stood for files, exactly these were found
  pub ran : IsSaved before after task sink full copy last faults status (λ files doubtful unnamed.
      end.honest → faults.unread ≡ 0 → (stored : Files File) → Stands begun.size begun.contents stored
      → AreAllFound (held copy.blocks) task files doubtful unnamed stored)
      ⊎ ((after ≡ before) × IsUnsurveyed copy last sink full status)

-- Why a disk isn't copied: neither it nor a home copy has a volume's size; or a home copy couldn't be read, and its
-- size isn't known; or memory ran out.
abbrev pub IsNoCopy : DiskState → DiskState → ℕ → SalvageError → Type 0
IsNoCopy begun end unread NotVolume = (IsVolumeSize begun.size → ⊥) × (end.failures ≡ begun.failures)
    × (end.honest → (size : ℕ) → HasHome size (held_to begun.size begun.contents) → ⊥)
IsNoCopy begun end unread Device = 0 < unread
IsNoCopy begun end unread NoMemory = Unit {0}

-- The disk wasn't copied, as is printed.
pub record IsUncopied (begun end : DiskState) (sink full : Option (List ℕ)) (status : Status) : Type 0 where
  pub error : SalvageError
  pub unread : ℕ
  pub cause : IsNoCopy begun end unread error
  pub few : unread ≤ 2 * begun.size + 2
  pub failures : end.failures ≡ failed_by unread begun.failures
  pub said : IsLine sink full status (start_code (start_error error)) (start_text (start_error error))

-- The disk, which `tail` bytes follow, was copied, or it wasn't. Nothing was written.
pub record IsSalvagedFrom (before after : List FileAct) (task : SalvageTask) (tail : ℕ) (sink full : Option (List ℕ))
    (begun end : DiskState) (status : Status) : Type 0 where
  pub still : end.honest → Still begun end
  pub done : IsCopied before after task tail sink full begun end status
      ⊎ ((after ≡ before) × IsUncopied begun end sink full status)

-- What became of the image, which may be cut in the middle of a block: its file was opened, and the disk of its whole
-- blocks salvaged only by calls of it since; or it wasn't, for a reason that holds.
abbrev pub IsOnSalvaged : {H L M F D I : Type 0} → HostFacts H → Views M F D I → List ℕ → Form → SalvageTask → Unseen
    → List FileAct → List FileAct → Option (List ℕ) → Option (List ℕ) → Disks L F D I → Status → Type 0
IsOnSalvaged {D = D} facts views path form task u before after sink full disks status =
    ((disk : D) × (tail : ℕ) × (disks ≡ Unserved disk) × IsOpened facts path Read u
    × IsCut form u tail (views.disk disk) × IsSalvagedFrom before after task tail sink full
    (begun_image form (views.disk disk).size u) (views.disk disk) status)
    ⊎ ((after ≡ before)
    × ((fault : ImageFault) × IsDeniedCut facts views path form u fault disks × IsExplained sink full status fault))
