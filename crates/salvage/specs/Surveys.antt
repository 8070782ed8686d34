-- What a survey of a disk finds: the files that are whole, and what every fault costs.
use Rattle.std.specs.Prelude.{◌≡◌, ◌⊎◌, ℕ, ◌+◌, ◌<◌, ◌≤◌, List, Contains, Some, None}
use Rattle.std.specs.List.{AllByRecursion}
use Rattle.words36.specs.declared.names.FileName.{FileName}
use Rattle.blockdisk.specs.Common.{Contents}
use Rattle.spec_image.specs.Common.{InSpace, File, Files, Place, Directory, get, times, HasBody, prime_of}
use Rattle.spec_image.specs.Common.{place_of, IsDirectoryNamed, IsFileNamed}
use Rattle.retrieval.specs.Common.{with_length}
use Rattle.volume.specs.declared.error.VolumeError.TheVariants.{BadRetrieval}
use Rattle.salvage.specs.Chains.{IsChainShared}
use Rattle.salvage.specs.FreeBlocks.{IsSearched}
use Rattle.salvage.specs.Findings.{IsFinding}
use Rattle.salvage.specs.Saved.{AreAlone, AreApart, IsAmong, IsInPlace, IsNamedRead, IsPrimeAt, IsWholeFile, claims}
use Rattle.salvage.specs.Saved.{blocks_of, place_in}
use Rattle.salvage.specs.declared.saved.SavedFile.{SavedFile}
use Rattle.salvage.specs.declared.search.Search.{Search}
use Rattle.salvage.specs.declared.finding.Cost.{Cost}
use Rattle.salvage.specs.declared.finding.Defect.{Defect}
use Rattle.salvage.specs.declared.finding.Defect.TheVariants.{Start, Crowded}
use Rattle.salvage.specs.declared.finding.Finding.{Finding}
use Rattle.salvage.specs.declared.finding.Cost.TheVariants as cost

-- One of the findings costs this.
pub record IsLostBy (findings : List Finding) (costs : Cost) : Type 0 where
  pub fault : Defect
  pub among : Contains findings (record { fault = fault; costs = costs })

-- A retrieval block is bad, or is one of too many files.
abbrev pub IsUnreadable : Defect → Type 0
IsUnreadable (Start (BadRetrieval n)) = Unit {0}
IsUnreadable (Crowded n) = Unit {0}
IsUnreadable fault = ⊥

-- One of the findings is that a retrieval block of the file of this place is bad, or is one of too many files.
pub record IsUnread (findings : List Finding) (ppn : ℕ) (name : FileName) : Type 0 where
  pub fault : Defect
  pub among : Contains findings (record { fault = fault; costs = cost.File ppn name })
  pub is : IsUnreadable fault

-- The names of its directory are lost, or those of all directories.
abbrev pub IsDirectoryLoss : List Finding → ℕ → Type 0
IsDirectoryLoss findings ppn = IsLostBy findings (cost.Directory ppn) ⊎ IsLostBy findings cost.Directories

-- If the chain of a directory has a block of another one's, the names of one of the two are lost.
abbrev pub AreChainsTold : ℕ → ℕ → Contents → List Finding → Type 0
AreChainsTold size layout contents findings = (ppn word first n : ℕ)
    → IsDirectoryNamed size contents layout ppn word first
    → (shared : IsChainShared size layout contents ppn first n)
    → IsDirectoryLoss findings ppn ⊎ IsDirectoryLoss findings shared.other

-- One of the findings costs the place of this file.
abbrev pub IsTold : List Finding → SavedFile → Type 0
IsTold findings file = IsLostBy findings (cost.File file.stored.prime.ppn file.stored.prime.file)

-- A data block of the file is damaged.
pub record IsDamaged (contents : Contents) (file : SavedFile) : Type 0 where
  pub block : ℕ
  pub among : 0 < times block file.stored.version.blocks
  pub damaged : contents block ≡ None

-- A block of the file occurs at least five times in these files.
pub record IsFull (files : List SavedFile) (file : SavedFile) : Type 0 where
  pub block : ℕ
  pub among : 0 < times block (blocks_of file)
  pub many : 5 ≤ claims files block

-- Of these files of directories each is in its place; or it is doubtful, or a block of it is damaged or in too many of
-- them, and a finding says why.
abbrev pub AreJudgedAs : Contents → List SavedFile → List SavedFile → List Finding → List SavedFile → Type 0
AreJudgedAs contents files doubtful findings read = AllByRecursion (λ file. Contains files file
    ⊎ ((Contains doubtful file ⊎ (IsDamaged contents file ⊎ IsFull read file)) × IsTold findings file)) read

pub record IsSurveyed (size layout : ℕ) (contents : Contents) (search : Search)
    (files doubtful unnamed : List SavedFile) (findings : List Finding) : Type 0 where
  -- what was read of the files that directories name: each of them, unless its retrieval blocks are bad or those of too
  -- many files, or the names of its directory are lost
  pub read : List SavedFile
  pub read_named : AllByRecursion (IsNamedRead size layout contents) read
  pub read_all : (ppn : ℕ) (name : FileName) (prime : ℕ) → IsFileNamed size contents layout (place_of ppn name) prime
      → IsAmong read (place_of ppn name) prime ⊎ (IsUnread findings ppn name ⊎ IsDirectoryLoss findings ppn)
  -- each chain is that of one directory
  pub chains_told : AreChainsTold size layout contents findings
  pub judged : AreJudgedAs contents files doubtful findings read
  pub placed : AllByRecursion (IsInPlace size layout contents read) files
  pub once : (n : ℕ) → claims files n ≤ 1
  pub doubted : AllByRecursion (λ file. Contains read file × IsWholeFile size layout contents file
      × IsTold findings file) doubtful
  -- whole files that no directory names, at blocks that were to be searched and that are in no file that was read
  pub unnamed_whole : AllByRecursion (IsWholeFile size layout contents) unnamed
  pub unnamed_apart : AreApart unnamed
  pub unnamed_alone : AreAlone size layout contents unnamed
  pub unnamed_at : AllByRecursion (λ file. InSpace size file.at × IsSearched search size contents file.at
      × (claims read file.at ≡ 0)) unnamed
  -- a block is in four places at most
  pub few : (n : ℕ) → claims files n + claims doubtful n + claims unnamed n ≤ 4
  -- each fault is there
  pub stand : AllByRecursion (IsFinding size layout contents) findings
  -- each prime block that is searched is that of a file that is found, or a fault costs that file
  pub unnamed_all : (prime ppn : ℕ) (name : FileName) → InSpace size prime → IsSearched search size contents prime
      → claims read prime ≡ 0 → IsPrimeAt layout contents prime (place_of ppn name)
      → IsAmong unnamed (place_of ppn name) prime ⊎ IsLostBy findings (cost.Unnamed ppn name prime)

-- The files that contents stand for.

-- The file is among these, with its words and all that its prime block says of it.
pub record IsSavedAs (contents : Contents) (files : List SavedFile) (place : Place) (file : File) : Type 0 where
  pub saved : SavedFile
  pub among : Contains files saved
  pub facts : prime_of place file ≡ with_length saved.stored.prime saved.stored.version.words
  pub body : HasBody contents saved.stored.version.blocks file.body

-- All files are among these.
abbrev pub AreAllSaved : Contents → List SavedFile → Files File → Type 0
AreAllSaved contents saved files =
    (ppn : ℕ) (directory : Directory File) (name : FileName) (file : File) → get files ppn ≡ Some directory
    → get directory.files name ≡ Some file → IsSavedAs contents saved (place_of ppn name) file

-- What was saved is a file of its place.
pub record IsFileSaved (contents : Contents) (files : Files File) (saved : SavedFile) : Type 0 where
  pub directory : Directory File
  pub directory_is : get files saved.stored.prime.ppn ≡ Some directory
  pub file : File
  pub file_is : get directory.files saved.stored.prime.file ≡ Some file
  pub facts : prime_of (place_in saved) file ≡ with_length saved.stored.prime saved.stored.version.words
  pub body : HasBody contents saved.stored.version.blocks file.body

-- These are all files, each at its place, and nothing else.
pub record AreTheFiles (contents : Contents) (saved : List SavedFile) (files : Files File) : Type 0 where
  pub all : AreAllSaved contents saved files
  pub only : AllByRecursion (IsFileSaved contents files) saved
