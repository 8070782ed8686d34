-- What a call leaves of the disk that it is given, whatever it returns. `device` means that it returned that the device
-- failed.
use Rattle.std.specs.Prelude.{◌≡◌}
use Rattle.blockdisk.specs.Common.{DiskState, Keeps, SameDisk, one_more}
use Rattle.changeset.specs.Common.{OnlyReads}

-- It is the same disk, and a failure is counted exactly if the device failed.
pub record DiskAnswer (s s' : DiskState) (device : Type 0) : Type 0 where
  pub same : SameDisk s s'
  pub failed : device → s'.failures ≡ one_more s.failures
  pub served : (device → ⊥) → s'.failures ≡ s.failures

-- Besides, the disk was only read, and nothing has changed.
pub record KeepsDisk (s s' : DiskState) (device : Type 0) : Type 0 where
  pub keeps : s'.honest → Keeps s s'
  pub same : SameDisk s s'
  pub failed : device → s'.failures ≡ one_more s.failures
  pub served : (device → ⊥) → s'.failures ≡ s.failures

-- Besides, nothing was written to it, and the same blocks are open.
pub record ReadsDisk (s s' : DiskState) (device : Type 0) : Type 0 where
  pub reads : s'.honest → OnlyReads s s'
  pub same : SameDisk s s'
  pub failed : device → s'.failures ≡ one_more s.failures
  pub served : (device → ⊥) → s'.failures ≡ s.failures
