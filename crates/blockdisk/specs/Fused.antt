-- What happens to a disk with a fuse.
use Rattle.std.specs.Prelude.{◌≡◌, ◌⊎◌, ◌<◌, ◌+◌, ℕ, Result, Ok, Err, Some}
use Rattle.blockdisk.specs.Disk.{DiskState, IsInRun, Modifies, one_more}
use Rattle.blockdisk.specs.Fuse.{burnt, left_behind, Lets, left_after, fused}
use Rattle.blockdisk.specs.declared.fault.Fault.{Fault}
use Rattle.blockdisk.specs.declared.fuse.FuseDisk.{FuseDisk}

-- a failure is counted once: by the disk under the fuse if that failed, too
abbrev pub own_failures : Result (Unit {0}) Fault → ℕ → ℕ
own_failures (Ok done) failures = one_more failures
own_failures (Err fault) failures = failures

module _ {D : Type 0} where
  -- after a call that passed, which left the disk underneath like this
  abbrev pub passed : FuseDisk D → D → FuseDisk D
  passed disk inner = record disk { inner = inner; left = burnt disk.fail disk.left }

  -- after a call that failed and wasn't passed on
  abbrev pub refused : FuseDisk D → FuseDisk D
  refused disk = record disk { left = burnt disk.fail disk.left; failures = one_more disk.failures }

  -- A call failed, and was passed on all the same: the disk underneath answered, as its promise `IsCall` allows.
  abbrev pub IsMadeAnyway : (Result (Unit {0}) Fault → Type 0) → FuseDisk D → FuseDisk D → Type 0
  IsMadeAnyway IsCall disk new = (answer : Result (Unit {0}) Fault) × IsCall answer
      × (new ≡ record (passed disk new.inner) { failures = own_failures answer disk.failures })

  -- `count` calls were made, and all passed.
  pub record HavePassed (count : ℕ) (old new : FuseDisk D) : Type 0 where
    pub lets : Lets old.left count
    pub left : new.left ≡ left_after old.left count
    pub fail : new.fail ≡ old.fail
    pub failures : new.failures ≡ old.failures

  -- `count` calls were made and passed, and the next one blew the fuse.
  pub record HasBlown (count : ℕ) (old new : FuseDisk D) : Type 0 where
    pub at : old.left ≡ Some count
    pub left : new.left ≡ left_behind old.fail
    pub fail : new.fail ≡ old.fail

  module _ (state : D → DiskState) where
    abbrev pub fuse_state : FuseDisk D → DiskState
    fuse_state disk = fused (state disk.inner) disk.failures

    -- `count` calls were made and passed, and the disk under the fuse failed the last of them
    pub record HasFailedBelow (count : ℕ) (old new : FuseDisk D) : Type 0 where
      pub passed : HavePassed count old new
      pub below : (state new.inner).failures ≡ one_more (state old.inner).failures

    -- A read of `count` blocks failed at one of them: it blew the fuse, or the disk under the fuse failed it.
    abbrev pub HasFailedRead : ℕ → FuseDisk D → FuseDisk D → Type 0
    HasFailedRead count old new = (k : ℕ) × (k < count)
        × ((HasBlown k old new × (new.failures ≡ one_more old.failures)) ⊎ HasFailedBelow (k + 1) old new)

    -- One failure was counted, by the fuse or by the disk underneath.
    abbrev pub IsCountedOnce : FuseDisk D → FuseDisk D → Type 0
    IsCountedOnce old new = ((new.failures ≡ one_more old.failures)
        × ((state new.inner).failures ≡ (state old.inner).failures))
        ⊎ ((new.failures ≡ old.failures) × ((state new.inner).failures ≡ one_more (state old.inner).failures))

    -- A write of `count` blocks from `first` failed at one of them, and no block after that was written.
    pub record HasFailedWrite (first count : ℕ) (old new : FuseDisk D) : Type 0 where
      pub k : ℕ
      pub within : k < count
      pub how : (HasBlown k old new × IsCountedOnce old new) ⊎ HasFailedBelow (k + 1) old new
      pub reached : (state new.inner).honest → Modifies (IsInRun first (k + 1)) (fuse_state old) (fuse_state new)
