-- Pinned versions.
use Rattle.std.specs.Prelude.{◌≡◌, ◌⊎◌, ◌<◌, ℕ, true, List, length, Option, None, Some, option_map, slice_get, Result}
use Rattle.std.specs.Prelude.{Ok, Err}
use Rattle.std.specs.Ordering.{nat_cmp}
use Rattle.std.specs.FinMap.Entries.{find}
use Rattle.words36.specs.declared.names.FileName.{FileName}
use Rattle.blockdisk.specs.Common.{Contents}
use Rattle.spec_image.specs.declared.code.ErrorCode.TheVariants.{NoDirectory, NotFound}
use Rattle.spec_image.specs.Common.{File, Directory, name_cmp, get, HasBody}
use Rattle.directory.specs.Common.{StandsAt}
use Rattle.retrieval.specs.Common.{mode_number, VersionState}
use Rattle.volume.specs.declared.error.CallError.{CallError}
use Rattle.volume.specs.declared.error.CallError.TheVariants.{Refused}
use Rattle.volume.specs.declared.live.LiveVersion.{LiveVersion}
use Rattle.volume.specs.declared.pending.PendingVersion.{PendingVersion}
use Rattle.volume.specs.declared.handles.Pin.{Pin}
use Rattle.volume.specs.declared.handles.VersionHandle.{VersionHandle}
use Rattle.volume.specs.declared.handles.VersionHandle.TheVariants.{Pinned, Pending}
use Rattle.volume.specs.CurrentMap.{CurrentVersion, CurrentDirectory}
use Rattle.volume.specs.MemoryMap.{MemoryMap, slot, pending_at, as_known, as_written}

-- The key is that of the version that the file of a place has.
pub record IsKeyOf (c : MemoryMap) (ppn : ℕ) (name : FileName) (key : ℕ) : Type 0 where
  pub place : ℕ
  pub word : ℕ × ℕ
  pub there : StandsAt nat_cmp c.known.master.entries ppn word place
  pub directory : CurrentDirectory
  pub directory_at : slice_get c.known.directories place ≡ Some directory
  pub index : ℕ
  pub prime : ℕ
  pub at : StandsAt name_cmp directory.chain.entries name prime index
  pub version : LiveVersion
  pub here : slot c.live key ≡ Some version
  pub known : slice_get directory.versions index ≡ Some (as_known version)
  pub prime_is : version.at ≡ prime
  pub current : version.is_current ≡ true

-- There is no such directory, or no such name in it, as the refusal says.
abbrev pub IsNoFile : MemoryMap → ℕ → FileName → CallError → Type 0
IsNoFile c ppn name error =
    ((find nat_cmp ppn c.known.master.entries ≡ None) × (error ≡ Refused NoDirectory))
    ⊎ ((place : ℕ) × (word : ℕ × ℕ) × StandsAt nat_cmp c.known.master.entries ppn word place
    × (directory : CurrentDirectory) × (slice_get c.known.directories place ≡ Some directory)
    × (find name_cmp name directory.chain.entries ≡ None) × (error ≡ Refused NotFound))

-- The version is that of the file, and its blocks have the file's words.
pub record IsVersionOf (contents : Contents) (v : CurrentVersion) (file : File) : Type 0 where
  pub protection : v.prime.protection ≡ file.protection
  pub mode : mode_number v.prime.mode ≡ file.mode
  pub time : v.prime.moment.minute ≡ file.time
  pub date : v.prime.moment.date ≡ file.date
  pub words : v.version.words ≡ length file.body
  pub body : HasBody contents v.version.blocks file.body

-- The answer to a pin of a file's version, for a file or for none.
abbrev pub IsFilePinned : Contents → List (Option LiveVersion) → Result Pin CallError → Option File → Type 0
IsFilePinned contents live answer None = answer ≡ Err (Refused NotFound)
IsFilePinned contents live answer (Some file) = (pin : Pin) × (answer ≡ Ok pin) × (v : LiveVersion)
    × (slot live pin.key ≡ Some v) × IsVersionOf contents (as_known v) file

-- The same for a name in a directory, or in none.
abbrev pub IsPinAnswer : Contents → List (Option LiveVersion) → FileName → Result Pin CallError
    → Option (Directory File) → Type 0
IsPinAnswer contents live name answer None = answer ≡ Err (Refused NoDirectory)
IsPinAnswer contents live name answer (Some d) = IsFilePinned contents live answer (get d.files name)

-- A version that is being written is the one of the file with a name, in a directory that exists.
abbrev pub BeginsWithFile : Contents → Option PendingVersion → FileName → Option (Directory File) → Type 0
BeginsWithFile contents pending name d = (p : PendingVersion) × (pending ≡ Some p) × (directory : Directory File)
    × (d ≡ Some directory) × (file : File) × (get directory.files name ≡ Some file)
    × IsVersionOf contents (as_written p) file

-- the version that is read, a pinned one or one that is being written
abbrev pub version_under : MemoryMap → VersionHandle → Option VersionState
version_under c (Pinned pin) = option_map (λ v. v.version) (slot c.live pin.key)
version_under c (Pending pending) = option_map (λ p. p.version) (pending_at c.pending pending.key)

-- it is there, and a pinned one has a reader
abbrev pub IsReadable : MemoryMap → VersionHandle → Type 0
IsReadable c (Pinned pin) = (v : LiveVersion) × (slot c.live pin.key ≡ Some v) × (0 < v.readers)
IsReadable c (Pending pending) = (p : PendingVersion) × (pending_at c.pending pending.key ≡ Some p)
