-- An image that is copied block by block, with zeros in place of a damaged block.
use Rattle.std.specs.Prelude.{◌≡◌, ◌⊎◌, ◌<◌, ◌≤◌, ℕ, List, Option, Some, None, Result, IfErr, IsErrOf, replicate}
use Rattle.blockdisk.specs.Common.{Contents, DiskState, MayLeave, SameDisk, one_more}
use Rattle.changeset.specs.Common.{OnlyReads}
use Rattle.volume.specs.declared.error.CopyError.{CopyError}
use Rattle.volume.specs.declared.error.CopyError.TheVariants.{Source, Target}
use Rattle.volume.specs.declared.error.VolumeError.TheVariants.{Device}

-- the words of a block in the copy
abbrev pub copied : Option (List ℕ) → List ℕ
copied None = replicate 128 0
copied (Some words) = words

-- The copy has the words of each block below `end`.
abbrev pub AreCopied : ℕ → Contents → Contents → Type 0
AreCopied end from to = (n : ℕ) → n < end → to n ≡ Some (copied (from n))

-- This holds for each block from `first` and below `end`.
abbrev pub ArePartlyCopied : ℕ → ℕ → Contents → Contents → Type 0
ArePartlyCopied first end from to = (n : ℕ) → first ≤ n → n < end → to n ≡ Some (copied (from n))

-- What a crash may leave of an unfinished copy, on a disk that was t: the blocks below the gate, the home copies among
-- them, as they were, or all other blocks as the copy has them.
abbrev pub HomesComeLast : ℕ → Contents → DiskState → Contents → Type 0
HomesComeLast size from t c = ((d : Contents) × MayLeave t d × ((n : ℕ) → n < 3 → c n ≡ d n))
    ⊎ ArePartlyCopied 3 size from c

-- The one disk, which was s, was only read; the other, which was t, may have anything; and which device failed if the
-- call was refused.
pub record IsCopyStep (s s' t t' : DiskState) (result : Result (Unit {0}) CopyError) : Type 0 where
  pub reads : s'.honest → OnlyReads s s'
  pub only : IfErr result (λ error. (error ≡ Source Device) ⊎ (error ≡ Target))
  pub same_source : SameDisk s s'
  pub same_target : SameDisk t t'
  pub failed_source : IsErrOf result (Source Device) → s'.failures ≡ one_more s.failures
  pub served_source : (IsErrOf result (Source Device) → ⊥) → s'.failures ≡ s.failures
  pub failed_target : IsErrOf result Target → t'.failures ≡ one_more t.failures
  pub served_target : (IsErrOf result Target → ⊥) → t'.failures ≡ t.failures
