-- The steps of a survey: what directories name, what else is on the disk, and which of these files are in their place.
use Rattle.std.specs.Prelude.{◌≡◌, ◌⊎◌, ℕ, ◌+◌, ◌<◌, ◌≤◌, List, [], ◌∷◌, ◌++◌, Bool, Contains, length, slice_index}
use Rattle.std.specs.List.{AllByRecursion}
use Rattle.words36.specs.declared.names.FileName.{FileName}
use Rattle.blockdisk.specs.Common.{Contents}
use Rattle.spec_image.specs.Common.{InSpace, place_of, times, total, IsFileNamed}
use Rattle.salvage.specs.Chains.{AreChains}
use Rattle.salvage.specs.Findings.{IsFinding}
use Rattle.salvage.specs.FreeBlocks.{IsSearched}
use Rattle.salvage.specs.Saved.{AreAlone, AreApart, IsAmong, IsInPlace, IsNamedRead, IsPrimeAt, IsRead, IsWholeFile}
use Rattle.salvage.specs.Saved.{blocks_of, claims}
use Rattle.salvage.specs.Surveys.{AreChainsTold, AreJudgedAs, IsDirectoryLoss, IsLostBy, IsTold, IsUnread}
use Rattle.salvage.specs.TakenFiles.{loss_of, told_of}
use Rattle.salvage.specs.declared.saved.SavedFile.{SavedFile}
use Rattle.salvage.specs.declared.search.Search.{Search}
use Rattle.salvage.specs.declared.finding.Defect.TheVariants.{Crowded}
use Rattle.salvage.specs.declared.finding.Finding.{Finding}
use Rattle.salvage.specs.declared.finding.Cost.TheVariants as cost

-- What directories name: files whose retrieval blocks are whole, and what is wrong with the others.
pub record IsTree (size layout : ℕ) (contents : Contents) (files : List SavedFile) (findings : List Finding)
    : Type 0 where
  pub read : AllByRecursion (IsNamedRead size layout contents) files
  pub apart : AreApart files
  pub stand : AllByRecursion (IsFinding size layout contents) findings
  pub named : (ppn : ℕ) (name : FileName) (prime : ℕ) → IsFileNamed size contents layout (place_of ppn name) prime
      → IsAmong files (place_of ppn name) prime ⊎ (IsUnread findings ppn name ⊎ IsDirectoryLoss findings ppn)
  pub chains_told : AreChainsTold size layout contents findings

-- The blocks of chains are marked, if any file was read.
abbrev pub AreMarked : ℕ → ℕ → Contents → List SavedFile → List Bool → List Bool → Type 0
AreMarked size layout contents files master directories =
    (files ≡ []) ⊎ AreChains size layout contents master directories

-- What else is at a block that is searched, and that is in none of these files.
pub record IsScanned (size layout : ℕ) (contents : Contents) (search : Search) (named unnamed : List SavedFile)
    (findings : List Finding) : Type 0 where
  pub read : AllByRecursion (IsRead size layout contents) unnamed
  pub apart : AreApart unnamed
  pub at : AllByRecursion (λ file. InSpace size file.at × IsSearched search size contents file.at
      × (claims named file.at ≡ 0)) unnamed
  pub alone : AreAlone size layout contents unnamed
  pub all : (prime ppn : ℕ) (name : FileName) → InSpace size prime → IsSearched search size contents prime
      → claims named prime ≡ 0 → IsPrimeAt layout contents prime (place_of ppn name)
      → IsAmong unnamed (place_of ppn name) prime ⊎ IsLostBy findings (cost.Unnamed ppn name prime)

-- Findings were added, and each of these faults is there.
pub record AreAdded (size layout : ℕ) (contents : Contents) (old new : List Finding) : Type 0 where
  pub added : List Finding
  pub new_is : new ≡ old ++ added
  pub stand : AllByRecursion (IsFinding size layout contents) added

-- Of these files that directories name, the ones in their place were taken, and the other whole ones are doubtful.
pub record ArePlaced (size layout : ℕ) (contents : Contents) (named files doubtful : List SavedFile)
    (findings : List Finding) : Type 0 where
  pub judged : AreJudgedAs contents files doubtful findings named
  pub placed : AllByRecursion (IsInPlace size layout contents named) files
  pub once : (n : ℕ) → claims files n ≤ 1
  pub doubted : AllByRecursion (λ file. Contains named file × IsWholeFile size layout contents file
      × IsTold findings file) doubtful

-- It is reported of one of these files that a block of it occurs five times in those before it and in it, with what was
-- claimed before them.
pub record IsFullBy (is_named : Bool) (claimed : List ℕ) (candidates : List SavedFile) (finding : Finding)
    : Type 0 where
  pub before : List SavedFile
  pub file : SavedFile
  pub after : List SavedFile
  pub block : ℕ
  pub candidates_are : candidates ≡ before ++ file ∷ after
  pub finding_is : finding ≡ told_of is_named file (Crowded block)
  pub among : 0 < times block (blocks_of file)
  pub many : 5 ≤ slice_index claimed block + (claims before block + times block (blocks_of file))

-- The blocks of these files were claimed, file by file: those were kept of which no block would have more than four
-- claims, and the others were reported.
pub record AreKept (is_named : Bool) (old new : List ℕ) (candidates kept : List SavedFile)
    (findings told : List Finding) : Type 0 where
  pub added : List Finding
  pub told_is : told ≡ findings ++ added
  pub only : AllByRecursion (Contains candidates) kept
  pub few : (f : SavedFile → ℕ) → total f kept ≤ total f candidates
  pub held : (n : ℕ) → slice_index old n + claims kept n ≤ slice_index new n
  pub grown : (n : ℕ) → slice_index new n ≤ slice_index old n + claims candidates n
  pub stand : AllByRecursion (IsFullBy is_named old candidates) added
  pub each : AllByRecursion (λ file. Contains kept file ⊎ ((block : ℕ) × (0 < times block (blocks_of file))
      × (5 ≤ slice_index old block + claims candidates block)
      × IsLostBy added (loss_of is_named file))) candidates

-- None of these files has more data blocks than one after it.
abbrev pub AreBySize : List SavedFile → Type 0
AreBySize files = (before after : List SavedFile) (file : SavedFile) → files ≡ before ++ file ∷ after
    → AllByRecursion (λ other. length other.stored.version.blocks ≤ length file.stored.version.blocks) before

-- Of these files that no directory names, the whole ones were taken.
pub record AreTaken (size layout : ℕ) (contents : Contents) (unnamed files : List SavedFile)
    (findings : List Finding) : Type 0 where
  pub whole : AllByRecursion (IsWholeFile size layout contents) files
  pub only : AllByRecursion (Contains unnamed) files
  pub apart : AreApart files
  pub each : (file : SavedFile) → Contains unnamed file → Contains files file
      ⊎ IsLostBy findings (cost.Unnamed file.stored.prime.ppn file.stored.prime.file file.at)
