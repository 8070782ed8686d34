-- How far the directories of a disk were read, and what a reader may be refused with.
use Rattle.std.specs.Prelude.{◌≡◌, ◌⊎◌, ℕ, ◌<◌, ◌≤◌, List, [], ◌∷◌, ◌++◌, Contains, Some, None, slice_index}
use Rattle.std.specs.List.{AllByRecursion}
use Rattle.std.specs.Ordering.{nat_cmp}
use Rattle.std.specs.FinMap.Entries.{find}
use Rattle.words36.specs.declared.names.FileName.{FileName}
use Rattle.blockdisk.specs.Common.{Contents}
use Rattle.spec_image.specs.Common.{Node, items, SpecMasterEntry, SpecFileEntry, file_words, name_cmp, place_of}
use Rattle.spec_image.specs.Common.{LeadsAlong, times}
use Rattle.spec_image.specs.Common.{IsFileNamed}
use Rattle.volume.specs.declared.error.VolumeError.{VolumeError}
use Rattle.salvage.specs.Chains.{IsFileWalked}
use Rattle.salvage.specs.Findings.{IsFaultAt, IsFinding}
use Rattle.salvage.specs.Saved.{AreApart, IsAmong, IsNamedRead, claims}
use Rattle.salvage.specs.Surveys.{IsLostBy, IsUnread}
use Rattle.salvage.specs.declared.saved.SavedFile.{SavedFile}
use Rattle.salvage.specs.declared.finding.Cost.{Cost}
use Rattle.salvage.specs.declared.finding.Defect.TheVariants.{Start, Crowded}
use Rattle.salvage.specs.declared.finding.Finding.{Finding}
use Rattle.volume.specs.declared.error.VolumeError.TheVariants as volume
use Rattle.salvage.specs.declared.finding.Cost.TheVariants as cost

-- Refusals.

-- the device failed, or a growth was refused: no fault of the contents
abbrev pub IsNoFault : VolumeError → Type 0
IsNoFault error = (error ≡ volume.Device) ⊎ (error ≡ volume.NoMemory)

-- A reader is refused with a fault that is there and costs this, or with no fault of the contents.
abbrev pub MayRefuse : ℕ → ℕ → Contents → Cost → VolumeError → Type 0
MayRefuse size layout contents costs error = IsNoFault error ⊎ IsFaultAt size layout contents (Start error) costs

-- what reading a chain is refused with
abbrev pub IsChainRefusal : VolumeError → Type 0
IsChainRefusal error = IsNoFault error ⊎ ((n : ℕ) × (error ≡ volume.BadDirectory n))
    ⊎ ((n : ℕ) × (error ≡ volume.BlockTwice n))

-- What was read so far.

-- The file is in one of these directories, or in this one with one of these names.
abbrev pub IsIn : List SpecMasterEntry → ℕ → List SpecFileEntry → SavedFile → Type 0
IsIn directories ppn names file = (find nat_cmp file.stored.prime.ppn directories ≡ None → ⊥)
    ⊎ ((file.stored.prime.ppn ≡ ppn) × (find name_cmp file.stored.prime.file names ≡ None → ⊥))

-- The file of this entry is among these, or its retrieval blocks are bad or those of too many files, as was found.
abbrev pub IsToldFile : List SavedFile → List Finding → ℕ → SpecFileEntry → Type 0
IsToldFile files findings ppn entry = IsAmong files (place_of ppn entry.0) entry.1
    ⊎ IsUnread findings ppn entry.0

-- Each file of the directory of this entry, as far as its chain is walked, is among these, or a finding costs it or its
-- directory.
abbrev pub IsToldDirectory : Contents → List SavedFile → List Finding → SpecMasterEntry → Type 0
IsToldDirectory contents files findings entry = (nodes : List (Node SpecFileEntry)) (last : ℕ)
    → LeadsAlong file_words contents entry.1.1 nodes last
    → (name : FileName) (prime : ℕ) → find name_cmp name (items nodes) ≡ Some prime
    → IsToldFile files findings entry.0 (name, prime) ⊎ IsLostBy findings (cost.Directory entry.0)

-- Of two of these directories whose chains have a block in common, a finding costs one.
abbrev pub AreApartChains : ℕ → Contents → List Finding → List SpecMasterEntry → Type 0
AreApartChains size contents findings directories = (d e : SpecMasterEntry) (n : ℕ) → Contains directories d
    → Contains directories e → (d.0 ≡ e.0 → ⊥) → IsFileWalked size contents d.1.1 n
    → IsFileWalked size contents e.1.1 n
    → IsLostBy findings (cost.Directory d.0) ⊎ IsLostBy findings (cost.Directory e.0)

-- No block has more owners than files that have it.
abbrev pub AreOwners : List ℕ → List SavedFile → Type 0
AreOwners owners files = (n : ℕ) → slice_index owners n ≤ claims files n

-- The file was added after the others; or an extension of it has four owners, and that was reported.
abbrev pub IsKept : List ℕ → SavedFile → Cost → List SavedFile → List SavedFile → List Finding → List Finding → Type 0
IsKept owners file costs files files' findings findings' =
    ((files' ≡ files ++ file ∷ []) × (findings' ≡ findings))
    ⊎ ((n : ℕ) × (0 < times n file.stored.version.ribs) × (slice_index owners n ≡ 4) × (files' ≡ files)
    × (findings' ≡ findings ++ record { fault = Crowded n; costs = costs } ∷ []))

-- These directories were read, and these names of this one.
pub record IsReadTo (size layout : ℕ) (contents : Contents) (directories : List SpecMasterEntry) (ppn : ℕ)
    (names : List SpecFileEntry) (files : List SavedFile) (findings : List Finding) : Type 0 where
  pub read : AllByRecursion (IsNamedRead size layout contents) files
  pub places : AllByRecursion (IsIn directories ppn names) files
  pub apart : AreApart files
  pub stand : AllByRecursion (IsFinding size layout contents) findings
  pub told : AllByRecursion (IsToldDirectory contents files findings) directories
  pub told_names : AllByRecursion (IsToldFile files findings ppn) names
  pub chains : AreApartChains size contents findings directories

-- The directory names the file of this entry.
abbrev pub IsNamedIn : ℕ → ℕ → Contents → ℕ → SpecFileEntry → Type 0
IsNamedIn size layout contents ppn entry = IsFileNamed size contents layout (place_of ppn entry.0) entry.1
