-- One change of a volume on its disk: its puts are committed, all or none. What the commit promises, and what follows
-- for files, versions and home copies, whichever call makes the change.
use Rattle.std.specs.Prelude.{◌≡◌, ◌⊎◌, ℕ, Bool, true, List, Result, OnOk, IfErr, IsErrOf}
use Rattle.blockdisk.specs.Common.{DiskState, NoneOpen, SameDisk, SameOutside, Near, Modifies, LeavesOnly, one_more}
use Rattle.changeset.specs.Common.{IsGateOrLog, IsShut, AllOrNone, IsPutIn}
use Rattle.spec_image.specs.declared.put.Put.{Put}
use Rattle.spec_image.specs.Common.{File, Files, pack_of, with_puts}
use Rattle.volume.specs.HomeBlocks.{HasHomesFrom, KeepsHomes}
use Rattle.volume.specs.MemoryMap.{MemoryMap}
use Rattle.volume.specs.Rest.{IsSoundMemory, RestsAt, StandsForOneOf, KeepsRead, KeepsEachWritten}
use Rattle.volume.specs.declared.error.CallError.{CallError}
use Rattle.volume.specs.declared.error.CallError.TheVariants.{Device, Failed}

-- the blocks that a commit of these puts writes
abbrev pub IsWrittenBy : ℕ → List Put → ℕ → Type 0
IsWrittenBy size puts n = IsGateOrLog size n ⊎ IsPutIn puts n

-- The puts were committed, or the device failed, and the volume with it.
pub record IsCommitted (s s' : DiskState) (puts : List Put) (was failed : Bool) (result : Result (Unit {0}) CallError)
    : Type 0 where
  -- what a crash leaves, and what there is at Ok
  pub crash : s'.honest → IsShut s → LeavesOnly s s' (AllOrNone puts s)
  pub all : s'.honest → OnOk result (SameOutside (IsGateOrLog s.size) (with_puts puts s.contents) s'.contents)
  pub settled : s'.honest → OnOk result (NoneOpen s')
  pub shut : s'.honest → IsShut s → OnOk result (IsShut s')
  -- which blocks are written, whatever the answer
  pub modified : s'.honest → OnOk result (Modifies (IsWrittenBy s.size puts) s s')
  pub near : s'.honest → LeavesOnly s s' (Near (IsWrittenBy s.size puts) s)
  pub same : SameDisk s s'
  -- what failed, and how often
  pub only : IfErr result (λ error. error ≡ Device)
  pub device : IsErrOf result Device → failed ≡ true
  pub still : OnOk result (failed ≡ was)
  pub counted : IsErrOf result Device → s'.failures ≡ one_more s.failures
  pub served : OnOk result (s'.failures ≡ s.failures)

-- What a call states of the device, whatever it is for: it failed once and the volume with it, or not at all.
pub record DeviceAnswer {T : Type 0} (s s' : DiskState) (was failed : Bool) (result : Result T CallError) : Type 0 where
  pub device : IsErrOf result Device → failed ≡ true
  pub ended : IsErrOf result Failed → failed ≡ true
  pub still : (IsErrOf result Device → ⊥) → (IsErrOf result Failed → ⊥) → failed ≡ was
  pub counted : IsErrOf result Device → s'.failures ≡ one_more s.failures
  pub served : (IsErrOf result Device → ⊥) → s'.failures ≡ s.failures
  pub same : SameDisk s s'

-- The home copies stay, unless the device failed; a crash at any moment leaves there what one could leave before.
pub record KeepsHomeCopies {T : Type 0} (s s' : DiskState) (result : Result T CallError) : Type 0 where
  pub crash : s'.honest → LeavesOnly s s' (HasHomesFrom s)
  pub stay : s'.honest → (IsErrOf result Device → ⊥) → KeepsHomes s.contents s'.contents

-- A change turns the files into what `become` makes of them; c is memory before it.
pub record ChangesFiles (s s' : DiskState) (c : MemoryMap) (become : Files File → Files File)
    (result : Result (Unit {0}) CallError) : Type 0 where
  -- let all that a crash may leave stand for f: a crash at any moment leaves what stands for f or for what f becomes,
  -- and at Ok for the latter
  pub crash : s'.honest → (f : Files File) → RestsAt s f
      → LeavesOnly s s' (StandsForOneOf (pack_of s) f (become f))
  pub done : s'.honest → (f : Files File) → RestsAt s f → OnOk result (RestsAt s' (become f))
  -- the words of all versions in use stay, unless the device failed
  pub readers : s'.honest → (IsErrOf result Device → ⊥) → KeepsRead s.contents s'.contents c
  pub writers : s'.honest → (IsErrOf result Device → ⊥) → KeepsEachWritten s.contents s'.contents c
  pub homes : KeepsHomeCopies s s' result

-- A volume was changed, or the device failed meanwhile.
pub record IsEdited (s s' : DiskState) (c c' : MemoryMap) (become : Files File → Files File) (failed : Bool)
    (result : Result (Unit {0}) CallError) : Type 0 where
  pub sound : IsSoundMemory s' c' failed
  pub files : ChangesFiles s s' c become result
  pub device : IsErrOf result Device → failed ≡ true
  pub same : SameDisk s s'
