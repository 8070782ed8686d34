-- What became of an image that was to get layout 2. `begun` is its disk before its first call.
use Rattle.std.specs.Prelude.{◌≡◌, ◌⊎◌, ℕ, List, Option, codes}
use Rattle.blockdisk.specs.Common.{DiskState, LeavesOnly, NoneOpen, Still, one_more}
use Rattle.changeset.specs.Common.{IsRecovered, AtRest}
use Rattle.imagefile.specs.Common.{begun_image, Unseen}
use Rattle.imagefile.specs.declared.form.Form.{Form}
use Rattle.spec_image.specs.Common.{File, Files, pack_in, SettledStandsOn, StandsOn, Stands}
use Rattle.volume.specs.Common.{NamesInSpace, Refuses, IsMigrated, RaisedLikeBefore}
use Rattle.volume.specs.declared.error.VolumeError.{VolumeError}
use Rattle.volume.specs.declared.error.VolumeError.TheVariants.{Device, NoMemory}
use Rattle.filser.specs.Denials.{IsExplained}
use Rattle.filser.specs.Hosts.{HostFacts, IsOpened}
use Rattle.filser.specs.Images.{IsDenied, IsWhole}
use Rattle.filser.specs.Lines.{IsLine}
use Rattle.filser.specs.Refusals.{start_code, start_text}
use Rattle.filser.specs.Views.{Views}
use Rattle.filser.specs.declared.disks.Disks.{Disks}
use Rattle.filser.specs.declared.disks.Disks.TheVariants.{Served}
use Rattle.filser.specs.declared.fault.ImageFault.{ImageFault}
use Rattle.filser.specs.declared.host.Access.TheVariants.{Write}
use Rattle.filser.specs.declared.status.Status.{Status}

-- The disk stood for these files, in layout 1 or in layout 2, and all that a crash leaves now stands for them in layout
-- 2. In layout 1 it was recovered, and both home copies were written; in layout 2 it was only recovered. At each moment
-- a crash left what stands for the same files, in the same layout or in layout 2.
pub record IsRaised (begun end : DiskState) : Type 0 where
  pub layout : ℕ
  pub files : Files File
  pub stood : StandsOn (pack_in layout begun.size) begun.contents files
  pub rests : AtRest end (λ c. SettledStandsOn (pack_in 2 begun.size) c files)
  pub settled : NoneOpen end
  pub crash : LeavesOnly begun end (RaisedLikeBefore begun)
  pub done : ((layout ≡ 1) × IsMigrated begun.size begun.contents end.contents)
      ⊎ ((layout ≡ 2) × IsRecovered begun.size begun.contents end.contents)

-- The same, with what holds for every disk: no call on it failed.
pub record IsMigration (begun end : DiskState) : Type 0 where
  pub size : end.size ≡ begun.size
  pub failures : end.failures ≡ begun.failures
  pub was_honest : end.honest → begun.honest
  pub raised : end.honest → IsRaised begun end

-- The disk was refused for a fault that is on it, or for lack of memory or a device fault; if the disk stood for files,
-- only the latter two are possible. Except after a device fault the disk is unchanged, or only recovered. At each
-- moment a crash left what stands for the same files, in the same layout or in layout 2.
pub record IsKeptBack (begun end : DiskState) (error : VolumeError) : Type 0 where
  pub refuses : Refuses begun.size end.contents error
  pub faultless : (files : Files File) → Stands begun.size begun.contents files
      → (error ≡ NoMemory) ⊎ (error ≡ Device)
  pub kept : (error ≡ Device → ⊥) → Still begun end ⊎ IsRecovered begun.size begun.contents end.contents
  pub crash : LeavesOnly begun end (RaisedLikeBefore begun)

-- The same, with what holds for every disk: a refusal for the device is caused by a device fault.
pub record IsMigrationRefused (begun end : DiskState) (error : VolumeError) : Type 0 where
  pub size : end.size ≡ begun.size
  pub named : NamesInSpace begun.size error
  pub failed : error ≡ Device → end.failures ≡ one_more begun.failures
  pub sound : (error ≡ Device → ⊥) → end.failures ≡ begun.failures
  pub was_honest : end.honest → begun.honest
  pub why : end.honest → IsKeptBack begun end error

-- what became of its disk, and what was printed
abbrev pub IsMigrationRun : DiskState → DiskState → Option (List ℕ) → Option (List ℕ) → Status → Type 0
IsMigrationRun begun end sink full status =
    (IsMigration begun end × IsLine sink full status 0 (codes "Layout 2"))
    ⊎ ((error : VolumeError) × IsMigrationRefused begun end error
    × IsLine sink full status (start_code error) (start_text error))

-- What became of the image of this form at a path: it was opened, and its disk has layout 2, or was refused, and only
-- by calls of that disk since the file was opened; or it wasn't opened, for a reason that holds.
abbrev pub IsOnMigrated : {H L M F D I : Type 0} → HostFacts H → Views M F D I → List ℕ → Form → Unseen
    → Option (List ℕ) → Option (List ℕ) → Disks L F D I → Status → Type 0
IsOnMigrated {I = I} facts views path form u sink full disks status =
    ((image : I) × (disks ≡ Served image) × IsOpened facts path Write u × IsWhole form u (views.image image)
    × IsMigrationRun (begun_image form (views.image image).size u) (views.image image) sink full status)
    ⊎ ((fault : ImageFault) × IsDenied facts views path Write form u fault disks × IsExplained sink full status fault)
