-- A volume stays sound if its memory does: its layout is that of the home copies, which stay.
use Rattle.std.proofs.Common.{◌≡◌, Bool, true, false, Result, IsErrOf, sym, ◌∙◌}
use Rattle.blockdisk.specs.Common.{DiskState}
use Rattle.spec_image.specs.declared.layout.Layout.{Layout}
use Rattle.volume.specs.Common.{KeepsHomes, MemoryMap, IsSoundMemory, IsSoundVolume}
use Rattle.volume.specs.declared.error.CallError.{CallError}
use Rattle.volume.specs.declared.error.CallError.TheVariants.{Device, Failed}
use Rattle.volume.proofs.common.Packs.{homes_layout}

pub not_both : (failed : Bool) → failed ≡ true → failed ≡ false → ⊥
not_both failed is not = cc

-- if nothing is written
pub volume_stays : (s : DiskState) (c c' : MemoryMap) (failed : Bool) (layout : Layout)
    → IsSoundVolume s c failed layout → IsSoundMemory s c' failed → IsSoundVolume s c' failed layout
volume_stays s c c' failed layout was memory = record { map = memory; layout_is = was.layout_is }

pub volume_goes_on : (s s' : DiskState) (c c' : MemoryMap) (failed failed' : Bool) (layout : Layout)
    → IsSoundVolume s c failed layout → IsSoundMemory s' c' failed' → s'.size ≡ s.size → (s'.honest → s.honest)
    → (failed' ≡ false → failed ≡ false)
    → (s'.honest → failed' ≡ false → KeepsHomes s.contents s'.contents) → IsSoundVolume s' c' failed' layout
volume_goes_on s s' c c' failed failed' layout was memory size honest alive homes = record {
  map = memory;
  layout_is = λ h ok. was.layout_is (honest h) (alive ok) ∙ sym (homes_layout s s' size (homes h ok));
}

-- Whether it serves still.

pub still_serves : {T : Type 0} (result : Result T CallError) (failed failed' : Bool)
    → (IsErrOf result Device → failed' ≡ true) → (IsErrOf result Failed → failed' ≡ true)
    → ((IsErrOf result Device → ⊥) → (IsErrOf result Failed → ⊥) → failed' ≡ failed)
    → failed' ≡ false → failed ≡ false
still_serves result failed failed' device gone still ok =
    sym (still (λ is. not_both failed' (device is) ok) (λ is. not_both failed' (gone is) ok)) ∙ ok
