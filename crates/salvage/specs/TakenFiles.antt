-- Which of a list of files are taken, file by file.
use Rattle.std.specs.Prelude.{◌≡◌, ◌⊎◌, ℕ, ◌+◌, ◌<◌, Bool, true, false, List, [], ◌∷◌, ◌++◌, None, slice_index}
use Rattle.std.specs.List.{AllByRecursion}
use Rattle.blockdisk.specs.Common.{Contents, IsWholeBlock}
use Rattle.spec_image.specs.Common.{times}
use Rattle.alloctab.specs.Common.{digit_at, flag_at}
use Rattle.volume.specs.declared.error.VolumeError.TheVariants.{BadData, BlockTwice}
use Rattle.salvage.specs.Saved.{blocks_of, claims}
use Rattle.salvage.specs.declared.saved.SavedFile.{SavedFile}
use Rattle.salvage.specs.declared.finding.Cost.{Cost}
use Rattle.salvage.specs.declared.finding.Defect.{Defect}
use Rattle.salvage.specs.declared.finding.Defect.TheVariants.{Start, FreeBlock}
use Rattle.salvage.specs.declared.finding.Finding.{Finding}
use Rattle.salvage.specs.declared.take.Verdict.{Verdict}
use Rattle.salvage.specs.declared.take.Verdict.TheVariants.{Good, Doubtful, Spoiled}
use Rattle.salvage.specs.declared.finding.Cost.TheVariants as cost

-- what is lost with a file that isn't taken, if a directory names it or if none does
abbrev pub loss_of : Bool → SavedFile → Cost
loss_of true file = cost.File file.stored.prime.ppn file.stored.prime.file
loss_of false file = cost.Unnamed file.stored.prime.ppn file.stored.prime.file file.at

-- None of its data blocks is damaged.
abbrev pub IsUndamaged : Contents → SavedFile → Type 0
IsUndamaged contents file = AllByRecursion (IsWholeBlock contents) file.stored.version.blocks

-- One of its data blocks is.
abbrev pub IsSpoiled : Contents → SavedFile → Defect → Type 0
IsSpoiled contents file (Start (BadData n)) = (0 < times n file.stored.version.blocks) × (contents n ≡ None)
IsSpoiled contents file fault = ⊥

-- how often block n is in these files, in a chain, or free
abbrev pub uses : List SavedFile → List Bool → List Bool → List Bool → ℕ → ℕ
uses files master directories free n =
    claims files n + digit_at master n + digit_at directories n + digit_at free n

-- Each of its blocks was counted exactly once.
abbrev pub IsAlone : List ℕ → SavedFile → Type 0
IsAlone counts file = (n : ℕ) → 0 < times n (blocks_of file) → slice_index counts n ≡ 1

-- One of its blocks is free, or wasn't counted exactly once.
abbrev pub IsDoubted : List ℕ → List Bool → SavedFile → Defect → Type 0
IsDoubted counts free file (Start (BlockTwice n)) = (0 < times n (blocks_of file))
    × (slice_index counts n ≡ 1 → ⊥) × (flag_at free n ≡ false)
IsDoubted counts free file (FreeBlock n) = (0 < times n (blocks_of file)) × (flag_at free n ≡ true)
IsDoubted counts free file fault = ⊥

-- The file is good: it is whole, and if a directory names it each of its blocks was counted exactly once.
abbrev pub IsGood : Contents → List ℕ → Bool → SavedFile → Type 0
IsGood contents counts true file = IsUndamaged contents file × IsAlone counts file
IsGood contents counts false file = IsUndamaged contents file

-- A directory names the file, and it is whole, but a block of it is free, or wasn't counted exactly once.
abbrev pub IsDoubtful : Contents → List ℕ → List Bool → Bool → SavedFile → Defect → Type 0
IsDoubtful contents counts free true file fault = IsUndamaged contents file × IsDoubted counts free file fault
IsDoubtful contents counts free false file fault = ⊥

-- what is reported of a file
abbrev pub told_of : Bool → SavedFile → Defect → Finding
told_of is_named file fault = record { fault = fault; costs = loss_of is_named file }

-- Those of these files that are good were taken, in turn, the doubtful ones were left, and of each other file it was
-- reported what is wrong.
unfoldable pub AreJudged : Contents → List ℕ → List Bool → Bool → List SavedFile → List SavedFile → List SavedFile
    → List Finding → Type 0
AreJudged contents counts free is_named [] taken left told = (taken ≡ []) × (left ≡ []) × (told ≡ [])
AreJudged contents counts free is_named (file ∷ files) taken left told =
    (IsGood contents counts is_named file × (rest : List SavedFile) × (taken ≡ file ∷ rest)
    × AreJudged contents counts free is_named files rest left told)
    ⊎ ((fault : Defect) × IsDoubtful contents counts free is_named file fault
    × (rest : List SavedFile) × (left ≡ file ∷ rest)
    × (more : List Finding) × (told ≡ told_of is_named file fault ∷ more)
    × AreJudged contents counts free is_named files taken rest more)
    ⊎ ((fault : Defect) × IsSpoiled contents file fault
    × (more : List Finding) × (told ≡ told_of is_named file fault ∷ more)
    × AreJudged contents counts free is_named files taken left more)

-- They follow what was taken, left and reported before.
pub record Judges (contents : Contents) (counts : List ℕ) (free : List Bool) (is_named : Bool)
    (candidates old_files new_files old_left new_left : List SavedFile) (old_findings new_findings : List Finding)
    : Type 0 where
  pub taken : List SavedFile
  pub left : List SavedFile
  pub told : List Finding
  pub files_are : new_files ≡ old_files ++ taken
  pub left_are : new_left ≡ old_left ++ left
  pub findings_are : new_findings ≡ old_findings ++ told
  pub judged : AreJudged contents counts free is_named candidates taken left told

-- By this verdict the file is taken, left with what is wrong, or only reported.
abbrev pub IsVerdict : Contents → List ℕ → List Bool → Bool → SavedFile → Verdict → Type 0
IsVerdict contents counts free is_named file Good = IsGood contents counts is_named file
IsVerdict contents counts free is_named file (Doubtful fault) = IsDoubtful contents counts free is_named file fault
IsVerdict contents counts free is_named file (Spoiled fault) = IsSpoiled contents file fault
