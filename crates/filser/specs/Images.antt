-- What became of the images that a run worked on: of an existing one, and of a new one.
use Rattle.std.specs.Prelude.{◌≡◌, ◌≢◌, ◌⊎◌, ◌<◌, ◌+◌, ◌*◌, ℕ, List, Option, Some, None as Nothing, option_map}
use Rattle.std.specs.declared.io.Error.{Error}
use Rattle.blockdisk.specs.Common.{DiskState, LeavesOnly, NoneOpen, Still, one_more}
use Rattle.changeset.specs.Common.{IsRecovered, AtRest}
use Rattle.imagefile.specs.Common.{BeganAs, begun_image, block_length, other_form, Unseen, size_of}
use Rattle.imagefile.specs.declared.form.Form.{Form}
use Rattle.spec_image.specs.Common.{File as StoredFile, Files, empty, IsVolumeSize, layout_number, pack_in, pack_of}
use Rattle.spec_image.specs.Common.{StandsOn}
use Rattle.spec_image.specs.declared.layout.Layout.{Layout}
use Rattle.volume.specs.Common.{HomesComeLast, RestsAt, StandsLikeBefore}
use Rattle.volume.specs.declared.error.CopyError.{CopyError}
use Rattle.volume.specs.declared.error.CopyError.TheVariants.{Source, Target}
use Rattle.volume.specs.declared.error.VolumeError.{VolumeError}
use Rattle.volume.specs.declared.error.VolumeError.TheVariants.{NotVolume, Device}
use Rattle.filser.specs.Denials.{IsCleared, IsDeviceFault, IsExplained, IsNoCutImage, IsNoImage, IsUnfilled}
use Rattle.filser.specs.Denials.{IsUnmade, IsUnopened, of_host}
use Rattle.filser.specs.Hosts.{HostFacts, IsMade, IsOpened}
use Rattle.filser.specs.Lines.{IsLine}
use Rattle.filser.specs.Refusals.{converted_text}
use Rattle.filser.specs.ServedDisks.{IsGivenBack, IsRefusedBy, IsServed, IsUnserved}
use Rattle.filser.specs.Streams.{IsStreamAt}
use Rattle.filser.specs.Tasks.{access_of, Attends, IsFirstMoment}
use Rattle.filser.specs.Views.{Views}
use Rattle.filser.specs.declared.disks.Disks.{Disks}
use Rattle.filser.specs.declared.disks.Disks.TheVariants.{Unasked, None, NoImage, Unserved, Served, Made}
use Rattle.filser.specs.declared.fault.HostFault.{HostFault}
use Rattle.filser.specs.declared.fault.HostFault.TheVariants.{System, Memory as NoMemory, WrongLength}
use Rattle.filser.specs.declared.fault.ImageFault.{ImageFault}
use Rattle.filser.specs.declared.host.Access.{Access}
use Rattle.filser.specs.declared.host.Access.TheVariants.{Read}
use Rattle.filser.specs.declared.host.RemovalRight.{RemovalRight}
use Rattle.filser.specs.declared.identity.FileId.{FileId}
use Rattle.filser.specs.declared.refusal.Refusal.TheVariants.{Exists, Start}
use Rattle.filser.specs.declared.status.Status.{Status}
use Rattle.filser.specs.declared.status.Status.TheVariants.{Done, Fault}
use Rattle.filser.specs.declared.task.Task.{Task}
use Rattle.filser.specs.declared.task.Task.TheVariants.{Run}
use Rattle.words36.specs.declared.moment.Moment.{Moment}

-- A task was done by a service on a disk, or the disk was refused.
abbrev pub IsTaskRun : {D : Type 0} → (D → DiskState) → DiskState → Task → Option (List ℕ) → Option (List ℕ)
    → Option (List ℕ) → Option (List ℕ) → D → Status → Type 0
IsTaskRun {D} state begun task source left sink full end status =
    IsServed state begun end status (Attends state task source left sink full)
    ⊎ ((refused : D) × IsUnserved begun (state refused) source left sink full status
    × IsGivenBack state task refused end)

-- The disk of an image whose file began like this has a block for each that the file has.
pub record IsWhole (form : Form) (u : Unseen) (d : DiskState) : Type 0 where
  pub size : d.honest → size_of u ≡ block_length form * d.size

-- It has a block for each whole one that the file has, and `tail` bytes follow these.
pub record IsCut (form : Form) (u : Unseen) (tail : ℕ) (d : DiskState) : Type 0 where
  pub size : d.honest → size_of u ≡ block_length form * d.size + tail
  pub short : tail < block_length form

-- A task on the image of this form at a path.

-- why it wasn't done
abbrev pub IsDenied : {H L M F D I : Type 0} → HostFacts H → Views M F D I → List ℕ → Access → Form → Unseen
    → ImageFault → Disks L F D I → Type 0
IsDenied facts views path access form u fault None = IsUnopened facts path access fault
IsDenied facts views path access form u fault (Unasked leave) = ⊥
IsDenied facts views path access form u fault (NoImage file) =
    IsOpened facts path access u × IsNoImage form u (views.file file) fault
IsDenied facts views path access form u fault (Unserved disk) =
    IsOpened facts path access u × BeganAs form u (views.disk disk) × (fault ≡ of_host NoMemory)
IsDenied facts views path access form u fault (Served image) = ⊥
IsDenied facts views path access form u fault (Made disk right) = ⊥

-- the same for an image that may be cut in the middle of a block, and is only read
abbrev pub IsDeniedCut : {H L M F D I : Type 0} → HostFacts H → Views M F D I → List ℕ → Form → Unseen → ImageFault
    → Disks L F D I → Type 0
IsDeniedCut facts views path form u fault None = IsUnopened facts path Read fault
IsDeniedCut facts views path form u fault (Unasked leave) = ⊥
IsDeniedCut facts views path form u fault (NoImage file) =
    IsOpened facts path Read u × IsNoCutImage form u (views.file file) fault
IsDeniedCut facts views path form u fault (Unserved disk) = ⊥
IsDeniedCut facts views path form u fault (Served image) = ⊥
IsDeniedCut facts views path form u fault (Made disk right) = ⊥

-- no disk was made of its file
abbrev pub HasNoDisk : {L F D I : Type 0} → Disks L F D I → Type 0
HasNoDisk None = Unit {0}
HasNoDisk (Unasked leave) = ⊥
HasNoDisk (NoImage file) = Unit {0}
HasNoDisk (Unserved disk) = ⊥
HasNoDisk (Served image) = ⊥
HasNoDisk (Made disk right) = ⊥

-- What became of the image, if `IsRun` is what a run on its disk comes to: the image was run on, and only by calls of
-- its disk since the file was opened; or it wasn't, for a reason that holds.
abbrev pub IsOnImageBy : {H L M F D I : Type 0} → HostFacts H → Views M F D I → List ℕ → Access → Form → Unseen
    → (DiskState → I → Status → Type 0) → Option (List ℕ) → Option (List ℕ) → Disks L F D I → Status → Type 0
IsOnImageBy {I = I} facts views path access form u IsRun sink full disks status =
    ((image : I) × (disks ≡ Served image) × IsOpened facts path access u × IsWhole form u (views.image image)
    × IsRun (begun_image form (views.image image).size u) image status)
    ⊎ ((fault : ImageFault) × IsDenied facts views path access form u fault disks × IsExplained sink full status fault)

-- The same for an image that is served.
abbrev pub IsOnImage : {H L M F D I : Type 0} → HostFacts H → Views M F D I → List ℕ → Form → Unseen → Task
    → Option (List ℕ) → Option (List ℕ) → Option (List ℕ) → Option (List ℕ) → Disks L F D I → Status → Type 0
IsOnImage {I = I} facts views path form u task source left sink full disks status =
    ((image : I) × (disks ≡ Served image) × IsOpened facts path (access_of task) u × IsWhole form u (views.image image)
    × IsTaskRun views.image (begun_image form (views.image image).size u) task source left sink full image status)
    ⊎ ((left ≡ source) × ((fault : ImageFault) × IsDenied facts views path (access_of task) form u fault disks
    × IsExplained sink full status fault))

-- A new image of this form with this number of blocks at a path.

-- The disk of a file that was made, which has this many blocks and faults, can't be used for an image of `blocks`
-- blocks: a device failed, or the disk has another number of blocks, or one that no volume has.
abbrev pub IsNoNewDisk : ℕ → ℕ → ℕ → ImageFault → Type 0
IsNoNewDisk size failures blocks fault = (IsDeviceFault fault × (failures ≡ 1))
    ⊎ ((size ≢ blocks) × (fault ≡ of_host WrongLength))
    ⊎ ((IsVolumeSize size → ⊥) × (fault.refusal ≡ Start NotVolume)
    × ((told : Option Error) × (fault.host ≡ option_map System told)))

-- why it wasn't made
abbrev pub IsNotMade : {H L M F D I : Type 0} → HostFacts H → Views M F D I → List ℕ → Form → ℕ → Unseen → ImageFault
    → Disks L F D I → Type 0
IsNotMade facts views path form blocks u fault None =
    IsUnmade facts path fault ⊎ IsUnfilled facts path form blocks fault
IsNotMade facts views path form blocks u fault (Unasked leave) = ⊥
IsNotMade facts views path form blocks u fault (NoImage file) =
    IsMade facts path form blocks u × IsNoImage form u (views.file file) fault
IsNotMade facts views path form blocks u fault (Unserved disk) =
    IsMade facts path form blocks u × IsNoNewDisk (views.disk disk).size (views.disk disk).failures blocks fault
IsNotMade facts views path form blocks u fault (Served image) = ⊥
IsNotMade facts views path form blocks u fault (Made disk right) = ⊥

-- the file was made where nothing was, and has the length of that many blocks in that form
pub record IsNewDisk {H M F D I : Type 0} (facts : HostFacts H) (views : Views M F D I) (path : List ℕ) (form : Form)
    (blocks : ℕ) (u : Unseen) (disk : D) : Type 0 where
  pub made : IsMade facts path form blocks u
  pub size : (views.disk disk).size ≡ blocks
  pub whole : IsWhole form u (views.disk disk)

-- an empty volume of this layout is on it: whatever a crash leaves of it stands for no files
pub record IsEmptyVolume (layout : Layout) (d : DiskState) : Type 0 where
  pub rests : d.honest → AtRest d (λ c. StandsOn (pack_in (layout_number layout) d.size) c empty)
  pub settled : d.honest → NoneOpen d

-- What became of a requested image: it was made, and nothing was printed; or it wasn't, for a reason that holds, and no
-- file is left of it, if it could be removed.
abbrev pub IsOnNew : {H L M F D I : Type 0} → HostFacts H → Views M F D I → List ℕ → Form → ℕ → Layout → Unseen
    → Option (List ℕ) → Option (List ℕ) → Disks L F D I → Status → Type 0
IsOnNew {D = D} facts views path form blocks layout u sink full disks status =
    ((disk : D) × (right : RemovalRight) × (disks ≡ Made disk right) × IsNewDisk facts views path form blocks u disk
    × IsEmptyVolume layout (views.disk disk) × (full ≡ sink) × (status ≡ Done))
    ⊎ ((fault : ImageFault) × IsNotMade facts views path form blocks u fault disks × IsCleared facts path fault
    × IsExplained sink full status fault)

-- A fresh volume in memory.

-- the disk in memory before the first line was read: an empty volume of 64 blocks, whose honesty needn't be supposed
pub record IsFresh (d : DiskState) : Type 0 where
  pub size : d.size ≡ 64
  pub honest : d.honest
  pub rests : AtRest d (λ c. StandsOn (pack_in 1 64) c empty)
  pub settled : NoneOpen d
  pub failures : d.failures ≡ 0

-- what became of it; its disk is honest whatever was done
abbrev pub IsOnFresh : {M F D I : Type 0} → Views M F D I → Option (List ℕ) → Option (List ℕ) → Option (List ℕ)
    → Option (List ℕ) → Option M → Status → Type 0
IsOnFresh {M} views source left sink full (Some memory) status = (views.memory memory).honest
    × (((begun : M) × IsFresh (views.memory begun) × (at : Moment) × IsFirstMoment at
    × IsTaskRun views.memory (views.memory begun) (Run at) source left sink full memory status)
    ⊎ ((views.memory memory).failures ≡ 1) × (left ≡ source)
    × IsExplained sink full status (record { refusal = Start Device; host = Nothing }))
IsOnFresh views source left sink full Nothing status = (left ≡ source) × (full ≡ sink) × (status ≡ Fault)

-- A conversion, to the other form.

-- At each moment a crash left of the existing image what stands for the same files.
pub record IsLeftAlone (begun end : DiskState) : Type 0 where
  pub was_honest : end.honest → begun.honest
  pub crash : end.honest → LeavesOnly begun end (StandsLikeBefore begun)

-- The existing image was recovered, and stands for these files, in the layout in which it stood for them.
pub record IsTaken (begun end : DiskState) : Type 0 where
  pub files : Files StoredFile
  pub stood : StandsOn (pack_of end) begun.contents files
  pub rests : RestsAt end files
  pub recovered : IsRecovered begun.size begun.contents end.contents

-- a fault of the existing image, or of its device
abbrev pub IsFaultOf : DiskState → DiskState → ImageFault → Type 0
IsFaultOf begun end fault = (error : VolumeError) × (fault.refusal ≡ Start error)
    × ((told : Option Error) × (fault.host ≡ option_map System told)) × IsRefusedBy begun end error

-- why the image couldn't be copied: a fault of its own, or of the device of the copy
abbrev pub IsCopyFault : CopyError → ImageFault → Type 0
IsCopyFault (Source error) fault = (fault.refusal ≡ Start error)
    × ((told : Option Error) × (fault.host ≡ option_map System told))
IsCopyFault Target fault = IsDeviceFault fault

-- The copy stands for the same files in the same layout, whatever a crash leaves of it, and nothing but the recovery
-- was written to the existing image. An interrupted copy would have the home copies that `new` had, or all other blocks
-- as the copy has them.
pub record IsCopied (mid from new to : DiskState) : Type 0 where
  pub files : Files StoredFile
  pub stood : StandsOn (pack_of to) mid.contents files
  pub source : RestsAt from files
  pub kept : Still mid from ⊎ IsRecovered mid.size mid.contents from.contents
  pub copy : RestsAt to files
  pub settled : NoneOpen to
  pub last : LeavesOnly new to (HomesComeLast mid.size from.contents new)

-- What became of a copy that was begun, from `mid`, which is `from` now, to `target`, which is `to` now.
abbrev pub IsCopyRun : {L M F D I : Type 0} → Views M F D I → DiskState → DiskState → DiskState → D → Option (List ℕ)
    → Option (List ℕ) → Disks L F D I → Status → Type 0
IsCopyRun views mid from target to sink full copy status =
    ((right : RemovalRight) × (copy ≡ Made to right)
    × (from.honest → (views.disk to).honest → IsCopied mid from target (views.disk to))
    × IsLine sink full status 0 (converted_text mid.size))
    ⊎ ((copy ≡ Unserved to) × ((fault : ImageFault)
    × (IsFaultOf mid from fault ⊎ (IsDeviceFault fault × ((views.disk to).failures ≡ one_more target.failures)))
    × IsExplained sink full status fault))

-- What became of the new image, if `mid` is the disk of the existing one when the new one was to be made: it was made;
-- or the existing one couldn't be read again; or the new one wasn't made, for a reason that holds.
abbrev pub IsOnCopy : {H L M F D I : Type 0} → HostFacts H → Views M F D I → List ℕ → Form → Unseen → DiskState
    → DiskState → Option (List ℕ) → Option (List ℕ) → Disks L F D I → Status → Type 0
IsOnCopy {D = D} facts views new form v mid from sink full copy status =
    ((to : D) × (right : RemovalRight) × (copy ≡ Made to right) × IsNewDisk facts views new form mid.size v to
    × (from.honest → (views.disk to).honest → IsCopied mid from (begun_image form mid.size v) (views.disk to))
    × IsLine sink full status 0 (converted_text mid.size))
    ⊎ ((to : D) × (copy ≡ Unserved to) × IsMade facts new form mid.size v × ((fault : ImageFault)
    × IsFaultOf mid from fault × IsExplained sink full status fault))
    ⊎ ((fault : ImageFault) × IsNotMade facts views new form mid.size v fault copy
    × IsExplained sink full status fault)

-- The disk of the existing image was recovered and read, which took it to `mid`; then a copy was to be made.
pub record IsConverted {H L M F D I : Type 0} (facts : HostFacts H) (views : Views M F D I) (new : List ℕ) (form : Form)
    (v : Unseen) (begun from : DiskState) (sink full : Option (List ℕ)) (copy : Disks L F D I) (status : Status)
    : Type 0 where
  pub mid : D
  pub size : (views.disk mid).size ≡ begun.size
  pub was_honest : from.honest → (views.disk mid).honest
  pub was_taken : (views.disk mid).honest → begun.honest
  pub taken : (views.disk mid).honest → IsTaken begun (views.disk mid)
  pub done : IsOnCopy facts views new form v (views.disk mid) from sink full copy status

-- What became of that disk and of the new one: a start refused it, or a copy was to be made.
abbrev pub IsOnSource : {H L M F D I : Type 0} → HostFacts H → Views M F D I → List ℕ → Form → Unseen → L → DiskState
    → DiskState → Option (List ℕ) → Option (List ℕ) → Disks L F D I → Status → Type 0
IsOnSource facts views new form v making begun from sink full copy status =
    ((copy ≡ Unasked making) × ((fault : ImageFault) × IsFaultOf begun from fault × IsExplained sink full status fault))
    ⊎ IsConverted facts views new form v begun from sink full copy status

-- something has the name of a new image, and perhaps a standard stream leads there
abbrev pub IsNameTaken : {H : Type 0} → HostFacts H → List ℕ → ImageFault → Type 0
IsNameTaken facts new fault = ((file : FileId) × facts.found new (Some file))
    × ((stream : Option HostFault) × IsStreamAt facts new stream
    × (fault ≡ record { refusal = Exists; host = stream }))

-- What became of both: the existing image was opened; or it wasn't, or the name of the new one is taken. A leave that
-- wasn't used is handed back.
abbrev pub IsOnBoth : {H L N M F D I : Type 0} → HostFacts H → Views M F D I → List ℕ → List ℕ → Form → Unseen → Unseen
    → L → N → Option (List ℕ) → Option (List ℕ) → Disks L F D I → Disks N F D I → Status → Type 0
IsOnBoth {D = D} facts views path new form u v opening making sink full image copy status =
    ((from : D) × (image ≡ Unserved from) × IsOpened facts path Read u × IsWhole form u (views.disk from)
    × IsLeftAlone (begun_image form (views.disk from).size u) (views.disk from)
    × IsOnSource facts views new (other_form form) v making (begun_image form (views.disk from).size u)
    (views.disk from) sink full copy status)
    ⊎ ((copy ≡ Unasked making) × ((fault : ImageFault)
    × (((image ≡ Unasked opening) × IsNameTaken facts new fault)
    ⊎ (HasNoDisk image × IsDenied facts views path Read form u fault image)) × IsExplained sink full status fault))
