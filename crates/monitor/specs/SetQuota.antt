-- Quota: what it finds, and what it leaves; and what is reported of a directory's charge.
use Rattle.std.specs.Prelude.{◌≡◌, ◌⊎◌, ℕ, ◌+◌, ◌==◌, List, true, false, Option, option_map, slice_index}
use Rattle.words36.specs.Common.{left}
use Rattle.blockdisk.specs.Common.{DiskState}
use Rattle.spec_machine.specs.Common.{charge, State, system}
use Rattle.spec_image.specs.Common.{get}
use Rattle.volume.specs.declared.charge.Charge.{Charge}
use Rattle.monitor.specs.DeleteDir.{IsNowhere, IsThere}

-- what a directory is charged for, and its quota
abbrev pub charge_told : State → ℕ → Option Charge
charge_told s ppn = option_map (λ d. record { quota = d.quota; used = charge s ppn }) (get s.files ppn)

-- the quota that the words at an address ask for
abbrev pub asked_quota : List ℕ → ℕ → ℕ
asked_quota core e = left (slice_index core (e + 1))

-- It is refused with this code, for the layout or for what there is.
abbrev pub IsDenied : DiskState → ℕ → ℕ → ℕ → ℕ → Type 0
IsDenied d layout ppn owner code = ((code ≡ 5) × ((layout == 1) ≡ true))
    ⊎ ((code ≡ 1) × ((layout == 1) ≡ false) × IsNowhere d owner)
    ⊎ ((code ≡ 2) × ((layout == 1) ≡ false) × IsThere d owner × ((ppn == system) ≡ false))

-- The layout has quotas, the directory is there, and the job may give it one.
abbrev pub IsLimitable : DiskState → ℕ → ℕ → ℕ → Type 0
IsLimitable d layout ppn owner = ((layout == 1) ≡ false) × IsThere d owner × ((ppn == system) ≡ true)
