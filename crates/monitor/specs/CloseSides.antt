-- Versions that were being written are dropped, and versions that were read are unpinned.
use Rattle.std.specs.Prelude.{◌≡◌, ℕ, ◌+◌, ◌<◌, ◌≤◌, false, List, Option, Some}
use Rattle.spec_image.specs.Common.{times}
use Rattle.volume.specs.Common.{MemoryMap, pending_at, slot}
use Rattle.volume.specs.declared.live.LiveVersion.{LiveVersion}
use Rattle.volume.specs.declared.pending.PendingVersion.{PendingVersion}
use Rattle.monitor.specs.Readers.{readers_of}
use Rattle.monitor.specs.Serves.{present}

-- a version that isn't current is one that somebody reads
abbrev pub IsNoneForgotten : List (Option LiveVersion) → Type 0
IsNoneForgotten live = (key : ℕ) (v : LiveVersion) → slot live key ≡ Some v → v.is_current ≡ false → 0 < v.readers

-- What is there was there before: versions that are written are as they were, and those that are read have as many
-- readers as before or fewer; of what is known of the disk only the table may change.
pub record OnlyDrops (c c' : MemoryMap) : Type 0 where
  pub stay : (key : ℕ) (p : PendingVersion) → pending_at c'.pending key ≡ Some p → pending_at c.pending key ≡ Some p
  pub live : (key : ℕ) (v : LiveVersion) → slot c'.live key ≡ Some v → (readers : ℕ) × (v.readers ≤ readers)
      × (slot c.live key ≡ Some (record v { readers = readers }))
  pub unread : IsNoneForgotten c.live → IsNoneForgotten c'.live
  pub known : c'.known ≡ record c.known { table = c'.known.table }

-- The versions under these keys are dropped, and those under these pins are unpinned, once for each; all others stay.
pub record Closes (c c' : MemoryMap) (keys pins : List ℕ) : Type 0 where
  pub gone : (key : ℕ) → present (pending_at c'.pending key) + times key keys ≡ present (pending_at c.pending key)
  pub released : (key : ℕ) → readers_of (slot c'.live key) + times key pins ≡ readers_of (slot c.live key)
  pub leaves : OnlyDrops c c'
