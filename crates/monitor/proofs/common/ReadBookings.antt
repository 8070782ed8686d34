-- What readers have pinned is booked: the machine has each version as memory has it, and the serial identifies it among
-- those that files have.
use Rattle.std.proofs.Common.{◌≡◌, ℕ, ◌<◌, Bool, true, false, List, [], ◌∷◌, length, flat_map, inl, Some, refl, sym}
use Rattle.std.proofs.Common.{ap, ◌∙◌}
use Rattle.std.specs.Prelude.{◌==◌}
use Rattle.std.proofs.lemmas.Bool.{eq-eqb}
use Rattle.std.specs.List.{AllByRecursion}
use Rattle.blockdisk.specs.Common.{DiskState}
use Rattle.spec_image.specs.Common.{version_cost, cost_of_blocks, blocks_of, Files, Place, values, SpecVersion, file_at}
use Rattle.spec_machine.specs.Common.{State, has_serial, HaveDistinctSerials}
use Rattle.spec_machine.proofs.Common.{none_passes, version_of_all}
use Rattle.spec_image.proofs.Common.{all_append}
use Rattle.volume.specs.Common.{IsWholeVersion, MemoryMap, slot, as_known, IsWholeMemory}
use Rattle.volume.specs.declared.live.LiveVersion.{LiveVersion}
use Rattle.volume.proofs.common.LiveLookups.{standing_at}
use Rattle.volume.proofs.common.Lookups.{all_each}
use Rattle.monitor.specs.Common.{AreBooked, AreRead}

-- The versions of files.

abbrev pub versions_of : Files SpecVersion → List SpecVersion
versions_of files = flat_map (λ d. values d.files) (values files)

-- what all of them have, the one at a place has
pub each_file : (P : SpecVersion → Type 0) (files : Files SpecVersion) → AllByRecursion P (versions_of files)
    → (place : Place) (x : SpecVersion) → file_at files place ≡ Some x → P x
each_file P files all place x is =
    let s : State = record { files = files; jobs = [] } in
    version_of_all s P (all_append P (versions_of files) [] all tt) x (inl (place, is))

-- no version of a list has a serial that the list doesn't have
pub none_has : (serial : ℕ) (vs : List SpecVersion) → has_serial serial vs ≡ false
    → AllByRecursion (λ v. (v.serial == serial) ≡ false) vs
none_has serial vs none = none_passes (λ v. v.serial == serial) vs none

pub serial_at : (files : Files SpecVersion) (place : Place) (x : SpecVersion) → file_at files place ≡ Some x
    → has_serial x.serial (versions_of files) ≡ true
serial_at files place x is = by (has_serial x.serial (versions_of files)) refl
  where
    by : (b : Bool) → has_serial x.serial (versions_of files) ≡ b → b ≡ true
    by true has = refl
    by false none =
        let differ = each_file (λ v. (v.serial == x.serial) ≡ false) files
        (none_has x.serial (versions_of files) none) place x is in
        let wrong = sym differ ∙ eq-eqb x.serial x.serial refl in cc

-- two serials that differ by the test are two
not_same : (a b : ℕ) → (a == b) ≡ false → a ≡ b → ⊥
not_same a b differ same = let wrong = sym differ ∙ eq-eqb a b same in cc

-- If serials are distinct, a version is identified by its serial.

abbrev pub IsTold : List SpecVersion → SpecVersion → Type 0
IsTold vs x = AllByRecursion (λ y. y.serial ≡ x.serial → y ≡ x) vs

pub all_told : (vs : List SpecVersion) → HaveDistinctSerials vs → AllByRecursion (IsTold vs) vs
all_told [] distinct = tt
all_told (v ∷ vs) distinct = (
  (
    (λ same. refl),
    all_each _ (λ y. y.serial ≡ v.serial
        → y ≡ v) vs (λ y differ same. absurd (not_same y.serial v.serial differ same)) none,
  ),
  told vs none (all_told vs distinct.1),
)
  where
    none : AllByRecursion (λ y. (y.serial == v.serial) ≡ false) vs
    none = none_has v.serial vs distinct.0

    told : (ws : List SpecVersion) → AllByRecursion (λ y. (y.serial == v.serial) ≡ false) ws
        → AllByRecursion (IsTold vs) ws
        → AllByRecursion (IsTold (v ∷ vs)) ws
    told [] others rest = tt
    told (w ∷ ws) others rest = (
      ((λ same. absurd (not_same w.serial v.serial others.0 (sym same))), rest.0),
      told ws others.1 rest.1,
    )

pub told_at : (files : Files SpecVersion) → HaveDistinctSerials (versions_of files) → (place : Place) (x : SpecVersion)
    → file_at files place ≡ Some x → IsTold (versions_of files) x
told_at files distinct = each_file (IsTold (versions_of files)) files (all_told (versions_of files) distinct)

-- What readers have pinned.
module _ (d : DiskState) (c : MemoryMap) (files : Files SpecVersion) (read : ℕ → SpecVersion)
    (whole : IsWholeMemory d.size c)
    (distinct : HaveDistinctSerials (versions_of files)) (reads : AreRead d c files read) where
  cost : (key : ℕ) (v : LiveVersion) → slot c.live key ≡ Some v → 0 < v.readers
      → version_cost (length (read key).file.body) ≡ cost_of_blocks (length v.version.blocks)
  cost key v there held =
      let words = (reads.each key v there held).version.words in
      let counted = (standing_at (λ v. IsWholeVersion (as_known v)) c.live key v whole.standing there).counted in
      ap cost_of_blocks (ap blocks_of (sym words) ∙ sym counted)

  current : (key : ℕ) (v : LiveVersion) → slot c.live key ≡ Some v → 0 < v.readers
      → has_serial (read key).serial (versions_of files) ≡ v.is_current
  current key v there held = by v.is_current refl
    where
      by : (b : Bool) → v.is_current ≡ b → has_serial (read key).serial (versions_of files) ≡ b
      by true is = let found = (reads.each key v there held).current is in serial_at files found.0 (read key) found.2
      by false ended = (reads.each key v there held).past ended

  alike : (key : ℕ) (v : LiveVersion) → slot c.live key ≡ Some v → 0 < v.readers
      → AllByRecursion (λ x. x.serial ≡ (read key).serial → length x.file.body ≡ length (read key).file.body)
      (versions_of files)
  alike key v there held = by v.is_current refl
    where
      by : (b : Bool) → v.is_current ≡ b → AllByRecursion (λ x. x.serial ≡ (read key).serial
          → length x.file.body ≡ length (read key).file.body) (versions_of files)
      by true is =
          let found = (reads.each key v there held).current is in
          all_each _ (λ x. x.serial ≡ (read key).serial → length x.file.body ≡ length (read key).file.body)
          (versions_of files) (λ x told same. ap (λ (y : SpecVersion). length y.file.body) (told same))
          (told_at files distinct found.0 (read key) found.2)
      by false ended =
          all_each _ (λ x. x.serial ≡ (read key).serial → length x.file.body ≡ length (read key).file.body)
          (versions_of files) (λ x differ same. absurd (not_same x.serial (read key).serial differ same))
          (none_has (read key).serial (versions_of files) ((reads.each key v there held).past ended))

  pub reads_booked : AreBooked c.live (versions_of files) read
  reads_booked = record { cost = cost; current = current; unread = reads.unread; apart = reads.apart; alike = alike }
