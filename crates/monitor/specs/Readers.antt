-- What readers have pinned: the versions that are pinned in memory, and those that the machine has in their place. An
-- input side has a pin, which names the version's key. Any number of readers may have one version pinned.
use Rattle.std.specs.Prelude.{◌≡◌, ℕ, ◌<◌, true, false, List, length, flat_map, Option, Some, None}
use Rattle.std.specs.List.{AllByRecursion}
use Rattle.blockdisk.specs.Common.{DiskState}
use Rattle.spec_image.specs.Common.{version_cost, cost_of_blocks, Files, Place, times, values, SpecVersion, file_at}
use Rattle.spec_machine.specs.Common.{has_serial}
use Rattle.volume.specs.Common.{as_known, MemoryMap, slot, IsVersionOf, prime_at}
use Rattle.volume.specs.declared.live.LiveVersion.{LiveVersion}

-- the number of readers that the version of a slot has; 0 if there is no version
abbrev pub readers_of : Option LiveVersion → ℕ
readers_of None = 0
readers_of (Some v) = v.readers

-- Each version is pinned as often as its key is in the list of pins.
abbrev pub ArePinned : List (Option LiveVersion) → List ℕ → Type 0
ArePinned live pins = (key : ℕ) → times key pins ≡ readers_of (slot live key)

-- What readers have pinned, as the machine has it under each key: `now` are the versions that files have.
pub record AreBooked (live : List (Option LiveVersion)) (now : List SpecVersion) (read : ℕ → SpecVersion) : Type 0 where
  -- a version that is read costs in the machine what it costs in memory
  pub cost : (key : ℕ) (v : LiveVersion) → slot live key ≡ Some v → 0 < v.readers
      → version_cost (length (read key).file.body) ≡ cost_of_blocks (length v.version.blocks)
  -- one that is current is that of a file, and another one isn't
  pub current : (key : ℕ) (v : LiveVersion) → slot live key ≡ Some v → 0 < v.readers
      → has_serial (read key).serial now ≡ v.is_current
  -- a version that nobody reads is current
  pub unread : (key : ℕ) (v : LiveVersion) → slot live key ≡ Some v → v.is_current ≡ false → 0 < v.readers
  -- two versions that are read have different serials
  pub apart : (key other : ℕ) (v w : LiveVersion) → slot live key ≡ Some v → slot live other ≡ Some w → 0 < v.readers
      → 0 < w.readers → (read key).serial ≡ (read other).serial → key ≡ other
  -- a file's version of the same serial has as many words
  pub alike : (key : ℕ) (v : LiveVersion) → slot live key ≡ Some v → 0 < v.readers
      → AllByRecursion (λ x. x.serial ≡ (read key).serial → length x.file.body ≡ length (read key).file.body) now

-- A version that is read, as the machine has it: while it is current it is that of the file at its place, and otherwise
-- that of no file.
pub record IsVersionRead (d : DiskState) (c : MemoryMap) (files : Files SpecVersion) (v : LiveVersion)
    (x : SpecVersion) : Type 0 where
  -- its blocks have the words that its readers find
  pub version : IsVersionOf d.contents (as_known v) x.file
  pub current : v.is_current ≡ true → (place : Place) × (prime_at c place.ppn place.name ≡ Some v.at)
      × (file_at files place ≡ Some x)
  pub past : v.is_current ≡ false → has_serial x.serial (flat_map (λ d. values d.files) (values files)) ≡ false

-- All of them, under their keys; two of them have different serials, and what nobody reads is current.
pub record AreRead (d : DiskState) (c : MemoryMap) (files : Files SpecVersion) (read : ℕ → SpecVersion) : Type 0 where
  pub each : (key : ℕ) (v : LiveVersion) → slot c.live key ≡ Some v → 0 < v.readers
      → IsVersionRead d c files v (read key)
  pub unread : (key : ℕ) (v : LiveVersion) → slot c.live key ≡ Some v → v.is_current ≡ false → 0 < v.readers
  pub apart : (key other : ℕ) (v w : LiveVersion) → slot c.live key ≡ Some v → slot c.live other ≡ Some w
      → 0 < v.readers → 0 < w.readers → (read key).serial ≡ (read other).serial → key ≡ other

-- A rename leaves a version its serial and its words, but not its protection: so readers of one version may have pinned
-- it with different ones.
pub record IsPinnedAs (held read : SpecVersion) : Type 0 where
  pub serial : held.serial ≡ read.serial
  pub words : length held.file.body ≡ length read.file.body
