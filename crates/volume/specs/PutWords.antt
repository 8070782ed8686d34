-- Words are put into a version that is being written: what this does to it and to the table.
use Rattle.std.specs.Prelude.{◌≡◌, ◌⊎◌, ℕ, ◌+◌, ◌-◌, ◌*◌, ◌<◌, ◌≤◌, List, length, Option, Some}
use Rattle.std.specs.List.{AllByRecursion}
use Rattle.spec_image.specs.Common.{blocks_of, cost_of_blocks, version_cost, InSpace, times, most_blocks}
use Rattle.spec_image.specs.Common.{length_after}
use Rattle.alloctab.specs.Common.{TableState, holds, uses, space}
use Rattle.retrieval.specs.Common.{AddsFree, VersionState, IsFixed}
use Rattle.volume.specs.declared.pending.PendingVersion.{PendingVersion}
use Rattle.volume.specs.MemoryMap.{pending_at}

-- A version that words can be put into: it is whole, its blocks are held, and what it costs is booked, with
-- a block more than are in use.
pub record IsReady (size : ℕ) (t : TableState) (v : VersionState) : Type 0 where
  pub fixed : IsFixed t
  pub inside : AllByRecursion (InSpace size) v.blocks
  pub counted : length v.blocks ≡ blocks_of v.words
  pub few : v.words ≤ most_blocks * 128
  pub held : (n : ℕ) → times n v.blocks ≤ holds t n
  pub used : uses t < t.booked
  pub cost : cost_of_blocks (length v.blocks) ≤ t.booked
  pub within : t.booked ≤ space size

-- A version has other blocks, those are held, and what they cost is booked.
pub record Regrows (size : ℕ) (t t' : TableState) (old new : VersionState) : Type 0 where
  pub counted : length new.blocks ≡ blocks_of new.words
  pub few : new.words ≤ most_blocks * 128
  pub ribs : new.ribs ≡ old.ribs
  pub inside : AllByRecursion (InSpace size) new.blocks
  -- a block that it lacked before was free
  pub adds : AddsFree t old.blocks new.blocks
  pub table : t' ≡ record t { held = t'.held; booked = t'.booked }
  pub held : (n : ℕ) → holds t' n + times n old.blocks ≡ holds t n + times n new.blocks
  pub booked : t'.booked + cost_of_blocks (length old.blocks) ≡ t.booked + cost_of_blocks (length new.blocks)
  pub within : t'.booked ≤ space size

-- `count` words find no place at a block of a version of `words` words: it would have more blocks than a file may have,
-- or cost more than there is room for.
abbrev pub HasNoPlace : (size booked words block count : ℕ) → Type 0
HasNoPlace size booked words block count = (most_blocks * 128 < length_after words block count)
    ⊎ (space size < booked + (version_cost (length_after words block count) - version_cost words))

-- This holds for the version under this key.
abbrev pub Regrown : ℕ → TableState → TableState → List (Option PendingVersion) → ℕ → PendingVersion → VersionState
    → Type 0
Regrown size t t' pending key p v = (pending_at pending key ≡ Some (record p { version = v }))
    × Regrows size t t' p.version v
