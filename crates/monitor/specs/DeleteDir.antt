-- DeleteDir: what it finds, and what it leaves.
use Rattle.std.specs.Prelude.{◌≡◌, ◌⊎◌, ℕ, ◌==◌, ◌||◌, ◌&&◌, not, Bool, true, false, None}
use Rattle.blockdisk.specs.Common.{DiskState}
use Rattle.spec_image.specs.Common.{File, Files, get}
use Rattle.spec_machine.specs.Common.{system}
use Rattle.volume.specs.Common.{quota_in_memory, MemoryMap, HasEntries, RestsAt}

-- The files that the disk stands for have no directory of this owner, or they have one.
abbrev pub IsNowhere : DiskState → ℕ → Type 0
IsNowhere d owner = d.honest → (f : Files File) → RestsAt d f → get f owner ≡ None

abbrev pub IsThere : DiskState → ℕ → Type 0
IsThere d owner = d.honest → (f : Files File) → RestsAt d f → get f owner ≡ None → ⊥

-- the job is neither [1,2] nor the directory's owner, or the directory has a quota and the job isn't [1,2]
abbrev pub is_kept_from : MemoryMap → ℕ → ℕ → Bool
is_kept_from c ppn owner = not ((ppn == system) || (ppn == owner))
    || (not (quota_in_memory c owner == 0) && not (ppn == system))

-- It is refused with this code, for what there is.
abbrev pub IsKeptBy : DiskState → MemoryMap → ℕ → ℕ → ℕ → Type 0
IsKeptBy d c ppn owner code = ((code ≡ 1) × IsNowhere d owner)
    ⊎ ((code ≡ 2) × IsThere d owner × (is_kept_from c ppn owner ≡ true))
    ⊎ ((code ≡ 0o22) × IsThere d owner × (is_kept_from c ppn owner ≡ false) × HasEntries c owner)

-- The directory is there, the job may delete it, and it is empty.
abbrev pub IsRemovable : DiskState → MemoryMap → ℕ → ℕ → Type 0
IsRemovable d c ppn owner = IsThere d owner × (is_kept_from c ppn owner ≡ false) × (HasEntries c owner → ⊥)
