-- A disk that was copied into memory, and what a start would find there.
use Rattle.std.specs.Prelude.{◌≡◌, ◌⊎◌, ℕ, ◌+◌, ◌-◌, ◌<◌, ◌≤◌, ◌==◌, zero, suc, Bool, true, false, not, nat_lt}
use Rattle.std.specs.Prelude.{if◌then◌else◌, List, [], ◌∷◌, ◌++◌, Contains, length, Option, Some, None}
use Rattle.blockdisk.specs.Common.{Contents, DiskState, one_more, Memory, held}
use Rattle.changeset.specs.Common.{IsLost, IsRecovered}
use Rattle.spec_image.specs.Common.{File, Files, IsVolumeSize, SettledStands, Stands}
use Rattle.volume.specs.Common.{SaysSize}
use Rattle.volume.specs.declared.error.VolumeError.TheVariants.{BadLog, Device}
use Rattle.salvage.specs.declared.copied.CopyFaults.{CopyFaults}
use Rattle.salvage.specs.declared.finding.Defect.{Defect}
use Rattle.salvage.specs.declared.finding.Defect.TheVariants.{Start, Missing, Surplus, Tail}
use Rattle.salvage.specs.declared.finding.Finding.{Finding}
use Rattle.salvage.specs.declared.finding.Cost.TheVariants as cost

-- a count of failures after k more
abbrev pub failed_by : ℕ → ℕ → ℕ
failed_by zero failures = failures
failed_by (suc k) failures = one_more (failed_by k failures)

-- The size of the volume.

-- what a disk of this many blocks holds: a block that it doesn't have is damaged
abbrev pub held_to : ℕ → Contents → Contents
held_to blocks contents n = if nat_lt n blocks then contents n else None

-- What the home copy in block n says of the size, if it is a valid one; nothing is known of one that couldn't be read.
abbrev pub IsSaid : Contents → ℕ → ℕ → Option ℕ → Type 0
IsSaid contents n unread (Some size) = SaysSize size contents n
IsSaid contents n unread None = unread ≡ 0 → (size : ℕ) → SaysSize size contents n → ⊥

-- the size by what the home copies say on a disk of this many blocks: if they differ, that of the disk if one of them
-- says so, and else that of the first; if neither says one, that of the disk
abbrev pub size_by : ℕ → Option ℕ → Option ℕ → ℕ
size_by blocks None None = blocks
size_by blocks None (Some second) = second
size_by blocks (Some first) None = first
size_by blocks (Some first) (Some second) = if second == blocks then blocks else first

-- A home copy is valid for this size.
abbrev pub HasHome : ℕ → Contents → Type 0
HasHome size contents = SaysSize size contents 1 ⊎ SaysSize size contents 2

-- What both home copies say.
pub record AreSaid (blocks : ℕ) (contents : Contents) (unread : ℕ) (first second : Option ℕ) : Type 0 where
  pub first_said : IsSaid (held_to blocks contents) 1 unread first
  pub second_said : IsSaid (held_to blocks contents) 2 unread second

-- The volume of a disk of this many blocks has this size, by what its home copies say; or it has that of the disk,
-- since its copy `copy` has a home copy that says so.
pub record IsSizeOf (blocks : ℕ) (contents : Contents) (unread : ℕ) (copy : Contents) (size : ℕ) : Type 0 where
  pub first : Option ℕ
  pub second : Option ℕ
  pub said : AreSaid blocks contents unread first second
  pub size_is : (size ≡ size_by blocks first second) ⊎ ((size ≡ blocks) × HasHome size copy)

-- On a disk of this many blocks, and bytes after them, these blocks of a volume of this size are missing, and these
-- blocks and bytes come after its end.
pub record AreLengths (blocks tail size : ℕ) (faults : CopyFaults) : Type 0 where
  pub volume : IsVolumeSize size
  pub missing : faults.missing ≡ size - blocks
  pub surplus : faults.surplus ≡ blocks - size
  pub tail_is : faults.tail ≡ tail

-- The copy.

-- Each block below `end` is that of the disk, or one of those that couldn't be read, which are damaged.
pub record AreCopies (end : ℕ) (from to : Contents) (unread : ℕ) : Type 0 where
  pub missed : List ℕ
  pub few : length missed ≤ unread
  pub each : (n : ℕ) → n < end → (to n ≡ from n) ⊎ (Contains missed n × (to n ≡ None))

-- The log's puts were made in the copy; or the gate is open and the log isn't good, and the copy is unchanged.
pub data IsSettledCopy (size : ℕ) (copied now : Contents) : Bool → Type 0 where
  settled : IsRecovered size copied now → IsSettledCopy size copied now false
  lost : IsLost size copied → ((n : ℕ) → now n ≡ copied n) → IsSettledCopy size copied now true

-- What a disk held, as it was copied and settled, up to its block `size`.
pub record IsCopyAt (from : DiskState) (size : ℕ) (copy : Memory) (unread : ℕ) (lost : Bool) : Type 0 where
  pub size_is : length copy.blocks ≡ size
  pub copied : Contents
  pub copies : AreCopies size (held_to from.size from.contents) copied unread
  pub settled : IsSettledCopy size copied (held copy.blocks) lost

-- The same, after `unread` reads that failed.
pub record IsMadeAt (from : DiskState) (size unread : ℕ) (copy : Memory) (faults : CopyFaults) : Type 0 where
  pub own : ℕ
  pub all : faults.unread ≡ unread + own
  pub copied : IsCopyAt from size copy own faults.has_bad_log

-- The same up to the end of its volume. If all of it could be read and it stood
-- for files, the copy has its size, and stands for them.
pub record IsCopyOf (from : DiskState) (copy : Memory) (faults : CopyFaults) : Type 0 where
  -- how often a home copy couldn't be read when the size was looked for, and how often a block that was copied
  pub homes : ℕ
  pub others : ℕ
  pub all : homes + others ≤ faults.unread
  pub size : IsSizeOf from.size from.contents homes (held copy.blocks) (length copy.blocks)
  pub copied : IsCopyAt from (length copy.blocks) copy others faults.has_bad_log
  pub stands : faults.unread ≡ 0 → (files : Files File) → Stands from.size from.contents files
      → (faults.has_bad_log ≡ false) × (length copy.blocks ≡ from.size)
      × SettledStands from.size (held copy.blocks) files

-- the finding of a fault that costs no file, if there is such a fault
abbrev pub finding_if : Bool → Defect → List Finding
finding_if stands fault = if stands then record { fault = fault; costs = cost.Nothing } ∷ [] else []

-- the findings of a copy: for its length, for a log that isn't valid though the gate is open, and for blocks that
-- couldn't be read
abbrev pub copy_findings : CopyFaults → List Finding
copy_findings faults = finding_if (not (faults.missing == 0)) (Missing faults.missing)
    ++ (finding_if (not (faults.surplus == 0)) (Surplus faults.surplus)
    ++ (finding_if (not (faults.tail == 0)) (Tail faults.tail)
    ++ (finding_if faults.has_bad_log (Start BadLog) ++ finding_if (not (faults.unread == 0)) (Start Device))))
