-- What is at the blocks that were checked so far.
use Rattle.std.specs.Prelude.{◌≡◌, ◌⊎◌, ◌↔◌, ℕ, ◌<◌, Bool, true, List, Contains, ◌++◌, slice_index}
use Rattle.std.specs.List.{AllByRecursion}
use Rattle.words36.specs.declared.names.FileName.{FileName}
use Rattle.blockdisk.specs.Common.{Contents}
use Rattle.spec_image.specs.Common.{InSpace, place_of}
use Rattle.alloctab.specs.Common.{flag_at}
use Rattle.salvage.specs.Extensions.{IsExtension}
use Rattle.salvage.specs.Findings.{IsFinding}
use Rattle.salvage.specs.FreeBlocks.{IsFreeBlock, IsSearched}
use Rattle.salvage.specs.Saved.{AreAlone, AreApart, IsAmong, IsPrimeAt, IsRead}
use Rattle.salvage.specs.Surveys.{IsLostBy}
use Rattle.salvage.specs.declared.saved.SavedFile.{SavedFile}
use Rattle.salvage.specs.declared.search.Search.{Search}
use Rattle.salvage.specs.declared.search.Search.TheVariants.{Named, Used, Every}
use Rattle.salvage.specs.declared.finding.Finding.{Finding}
use Rattle.salvage.specs.declared.finding.Cost.TheVariants as cost

-- The marked blocks are those that the table says are free.
abbrev pub AreFree : ℕ → Contents → List Bool → Type 0
AreFree size contents free = (n : ℕ) → n < size → (flag_at free n ≡ true) ↔ IsFreeBlock size contents n

-- By these marks a search checks block n.
abbrev pub IsWanted : Search → List Bool → ℕ → Type 0
IsWanted Named free n = ⊥
IsWanted Used free n = flag_at free n ≡ true → ⊥
IsWanted Every free n = Unit {0}

-- It is to be checked, and was never counted.
abbrev pub IsCandidate : Search → List Bool → List ℕ → ℕ → Type 0
IsCandidate search free counts n = (slice_index counts n ≡ 0) × IsWanted search free n

-- What is wrong with the file of the prime block n was reported after the findings, if it is a prime block.
pub record IsReported (size layout : ℕ) (contents : Contents) (n : ℕ) (old new : List Finding) : Type 0 where
  pub added : List Finding
  pub new_is : new ≡ old ++ added
  pub stand : AllByRecursion (IsFinding size layout contents) added
  pub each : (ppn : ℕ) (name : FileName) → IsPrimeAt layout contents n (place_of ppn name)
      → IsLostBy added (cost.Unnamed ppn name n)

-- Each extension of these files is marked, and it is one file's alone.
pub record AreLoaded (size layout : ℕ) (contents : Contents) (marks : List Bool) (files : List SavedFile)
    : Type 0 where
  pub held : (file : SavedFile) (n : ℕ) → Contains files file → IsExtension size layout contents file.at n
      → flag_at marks n ≡ true
  pub alone : AreAlone size layout contents files

-- The file whose prime block this is was added after the others, or what is wrong with it after the findings; or block
-- n is no prime block.
pub record IsReadAt (size layout : ℕ) (contents : Contents) (n : ℕ) (old new : List SavedFile)
    (findings told : List Finding) : Type 0 where
  pub found : List SavedFile
  pub new_is : new ≡ old ++ found
  pub added : List Finding
  pub told_is : told ≡ findings ++ added
  pub read : AllByRecursion (IsRead size layout contents) found
  pub apart : AreApart found
  pub here : AllByRecursion (λ file. file.at ≡ n) found
  pub stand : AllByRecursion (IsFinding size layout contents) added
  pub all : (ppn : ℕ) (name : FileName) → IsPrimeAt layout contents n (place_of ppn name)
      → IsAmong found (place_of ppn name) n ⊎ IsLostBy added (cost.Unnamed ppn name n)

-- What was found at the blocks before this one that are to be searched and were never counted.
pub record AreFound (size layout : ℕ) (contents : Contents) (search : Search) (counts : List ℕ)
    (files : List SavedFile) (findings told : List Finding) (before : ℕ) : Type 0 where
  pub read : AllByRecursion (IsRead size layout contents) files
  pub apart : AreApart files
  pub earlier : AllByRecursion (λ file. file.at < before) files
  pub at : AllByRecursion (λ file. InSpace size file.at × IsSearched search size contents file.at
      × (slice_index counts file.at ≡ 0)) files
  pub added : List Finding
  pub told_is : told ≡ findings ++ added
  pub stand : AllByRecursion (IsFinding size layout contents) added
  pub all : (prime ppn : ℕ) (name : FileName) → InSpace size prime → prime < before
      → IsSearched search size contents prime → slice_index counts prime ≡ 0
      → IsPrimeAt layout contents prime (place_of ppn name)
      → IsAmong files (place_of ppn name) prime ⊎ IsLostBy added (cost.Unnamed ppn name prime)
