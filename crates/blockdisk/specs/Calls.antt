-- What the trait promises of each call, as one record for each: also for the disk under another one, whose calls no
-- clause can name.
use Rattle.std.specs.Prelude.{◌≡◌, ◌<◌, ◌+◌, ℕ, List, Option, Some, None, Result, IsOk, IfOk, OnOk, OnErr, IsErrOf}
use Rattle.std.specs.Prelude.{length}
use Rattle.blockdisk.specs.Disk.{DiskState, SameDisk, Keeps, Writes, Syncs, Fails, one_more, AreFilled, AreVerified}
use Rattle.blockdisk.specs.Disk.{IsWithin, HoldRun, IsInRun, Modifies}
use Rattle.blockdisk.specs.declared.fault.Fault.{Fault}
use Rattle.blockdisk.specs.declared.fault.Fault.TheVariants.{Device, Damaged}

-- a read of block n with this answer
pub record IsRead (n : ℕ) (s s' : DiskState) (answer : Result (List ℕ) Fault) : Type 0 where
  pub words : s'.honest → IfOk answer (λ block. s.contents n ≡ Some block)
  pub damaged : s'.honest → IsErrOf answer Damaged → s.contents n ≡ None
  pub keeps : s'.honest → Keeps s s'
  pub same : SameDisk s s'
  pub failed : IsErrOf answer Device → s'.failures ≡ one_more s.failures
  pub served : (IsErrOf answer Device → ⊥) → s'.failures ≡ s.failures

-- a read of the blocks from `first` into as many places, which then hold these
pub record IsRunRead (first : ℕ) (s s' : DiskState) (blocks : List (List ℕ)) (answer : Result (Option ℕ) Fault)
    : Type 0 where
  pub within : IfOk answer (IsWithin first (first + length blocks))
  pub words : s'.honest → IfOk answer (AreFilled s.contents first blocks)
  pub keeps : s'.honest → Keeps s s'
  pub same : SameDisk s s'
  pub device : IsErrOf answer Damaged → ⊥
  pub failed : IsErrOf answer Device → s'.failures ≡ one_more s.failures
  pub served : IsOk answer → s'.failures ≡ s.failures

-- a check of the blocks from `first` and before `end`, with this answer
pub record IsVerify (first end : ℕ) (s s' : DiskState) (answer : Result (Option ℕ) Fault) : Type 0 where
  pub within : IfOk answer (IsWithin first end)
  pub verified : s'.honest → IfOk answer (AreVerified s.contents first end)
  pub keeps : s'.honest → Keeps s s'
  pub same : SameDisk s s'
  pub device : IsErrOf answer Damaged → ⊥
  pub failed : IsErrOf answer Device → s'.failures ≡ one_more s.failures
  pub served : IsOk answer → s'.failures ≡ s.failures

-- a write of these words to block n
pub record IsWrite (n : ℕ) (words : List ℕ) (s s' : DiskState) (answer : Result (Unit {0}) Fault) : Type 0 where
  pub put : s'.honest → OnOk answer (s'.contents n ≡ Some words)
  pub moves : s'.honest → OnOk answer (s.clock < s'.clock)
  pub writes : s'.honest → Writes n s s'
  pub same : SameDisk s s'
  pub device : IsErrOf answer Damaged → ⊥
  pub failed : IsErrOf answer Device → s'.failures ≡ one_more s.failures
  pub served : OnOk answer (s'.failures ≡ s.failures)

-- a write of these blocks from `first`
pub record IsRunWrite (first : ℕ) (blocks : List (List ℕ)) (s s' : DiskState) (answer : Result (Unit {0}) Fault)
    : Type 0 where
  pub put : s'.honest → OnOk answer (HoldRun s'.contents first blocks)
  pub moves : s'.honest → OnOk answer (0 < length blocks → s.clock < s'.clock)
  pub writes : s'.honest → Modifies (IsInRun first (length blocks)) s s'
  pub same : SameDisk s s'
  pub device : IsErrOf answer Damaged → ⊥
  pub failed : IsErrOf answer Device → s'.failures ≡ one_more s.failures
  pub served : OnOk answer (s'.failures ≡ s.failures)

-- a sync
pub record IsSync (s s' : DiskState) (answer : Result (Unit {0}) Fault) : Type 0 where
  pub syncs : s'.honest → OnOk answer (Syncs s s')
  pub moves : s'.honest → OnOk answer (s.clock < s'.clock)
  pub fails : s'.honest → OnErr answer (Fails s s')
  pub same : SameDisk s s'
  pub device : IsErrOf answer Damaged → ⊥
  pub failed : IsErrOf answer Device → s'.failures ≡ one_more s.failures
  pub served : OnOk answer (s'.failures ≡ s.failures)
