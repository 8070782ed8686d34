-- What a volume has in memory: what it knows of its disk, the key of each file's version, and the versions under their
-- keys. A version is current if a file of the disk has it; any other one is there while it is pinned. Besides them
-- there are versions that are being written, which nobody else sees.
use Rattle.std.specs.Prelude.{◌≡◌, ℕ, ◌+◌, ◌-◌, ◌*◌, ◌^◌, ◌<◌, ◌≤◌, ◌==◌, Bool, true, false, if◌then◌else◌, List, []}
use Rattle.std.specs.Prelude.{◌∷◌, length, Option, Some, None, IfSome, slice_index_or}
use Rattle.std.specs.List.{AllByRecursion, AllZip}
use Rattle.std.specs.Ordering.{nat_cmp}
use Rattle.std.specs.FinMap.Entries.{find}
use Rattle.words36.specs.declared.names.FileName.{FileName}
use Rattle.spec_image.specs.Common.{total, times, cost_of_blocks, directory_cost, SpecMasterEntry, InSpace}
use Rattle.alloctab.specs.Common.{bit, holds, space}
use Rattle.volume.specs.declared.live.LiveVersion.{LiveVersion}
use Rattle.volume.specs.declared.pending.PendingKind.{PendingKind}
use Rattle.volume.specs.declared.pending.PendingKind.TheVariants.{Create, Supersede, Update, Append}
use Rattle.volume.specs.declared.pending.PendingVersion.{PendingVersion}
use Rattle.volume.specs.CurrentMap.{CurrentMap, CurrentVersion, CurrentDirectory, blocks_reached, reaches_in_entries}
use Rattle.volume.specs.CurrentMap.{cost_of_known}
use Rattle.volume.specs.CurrentMap.{IsWholeVersion, IsWholeMap, prime_in}

pub record MemoryMap : Type 0 where
  pub known : CurrentMap
  -- for each directory the keys of its versions, in the order of its entries
  pub keys : List (List ℕ)
  -- the versions by their keys
  pub live : List (Option LiveVersion)
  -- those that are being written, by keys of their own
  pub pending : List (Option PendingVersion)

abbrev pub slot : List (Option LiveVersion) → ℕ → Option LiveVersion
slot live key = slice_index_or live key None

abbrev pub pending_at : List (Option PendingVersion) → ℕ → Option PendingVersion
pending_at pending key = slice_index_or pending key None

-- as what is known of a file
abbrev pub as_known : LiveVersion → CurrentVersion
as_known v = record { prime = v.prime; version = v.version }

-- the same for one that is being written
abbrev pub as_written : PendingVersion → CurrentVersion
as_written p = record { prime = p.prime; version = p.version }

-- The version under the key is current, and has this prime block.
pub record IsCurrent (live : List (Option LiveVersion)) (key prime : ℕ) : Type 0 where
  pub version : LiveVersion
  pub there : slot live key ≡ Some version
  pub at : version.at ≡ prime
  pub current : version.is_current ≡ true

-- the version of each entry is the one under its key
abbrev pub IsKeyed : List (Option LiveVersion) → CurrentDirectory → List ℕ → Type 0
IsKeyed live d keys = AllZip (λ e key. IsCurrent live key e.1) d.chain.entries keys

-- A version that was read when the volume was opened: it isn't pinned yet.
pub record IsFirstRead (v : LiveVersion) : Type 0 where
  pub current : v.is_current ≡ true
  pub unread : v.readers ≡ 0
  pub whole : IsWholeVersion (as_known v)

-- How often a block occurs in a version that is pinned and no longer current, and what that costs.

abbrev pub pinned_reaches : ℕ → Option LiveVersion → ℕ
pinned_reaches n None = 0
pinned_reaches n (Some v) = if v.is_current then 0 else times n (blocks_reached v.at v.version)

abbrev pub pinned_cost : Option LiveVersion → ℕ
pinned_cost None = 0
pinned_cost (Some v) = if v.is_current then 0 else cost_of_blocks (length v.version.blocks)

-- How often it occurs in one that is current.
abbrev pub current_reaches : ℕ → Option LiveVersion → ℕ
current_reaches n None = 0
current_reaches n (Some v) = if v.is_current then times n (blocks_reached v.at v.version) else 0

-- how often in the versions of all entries
abbrev pub entry_reaches : ℕ → List CurrentDirectory → ℕ
entry_reaches n directories = total (λ d. reaches_in_entries n d.chain.entries d.versions) directories

-- The same for a version that is being written.

abbrev pub pending_reaches : ℕ → Option PendingVersion → ℕ
pending_reaches n None = 0
pending_reaches n (Some p) = times n p.version.blocks

abbrev pub pending_cost : Option PendingVersion → ℕ
pending_cost None = 0
pending_cost (Some p) = cost_of_blocks (length p.version.blocks)

-- whether it began as a file of a new name
abbrev pub is_create : PendingKind → Bool
is_create Create = true
is_create Supersede = false
is_create Update = false
is_create Append = false

abbrev pub is_creation : PendingVersion → Bool
is_creation p = is_create p.kind

-- how many of them will be new entries of a directory
abbrev pub creates : ℕ → Option PendingVersion → ℕ
creates ppn None = 0
creates ppn (Some p) = if is_creation p then (if p.prime.ppn == ppn then 1 else 0) else 0

-- by how much directories cost more with the entries that they will have
abbrev pub growths : List (Option PendingVersion) → List SpecMasterEntry → List CurrentDirectory → ℕ
growths pending [] directories = 0
growths pending (e ∷ es) [] = 0
growths pending (e ∷ es) (d ∷ ds) =
    directory_cost (length d.chain.entries + total (creates e.0) pending) - directory_cost (length d.chain.entries)
    + growths pending es ds

-- what is booked beyond the files
abbrev pub cost_beyond : MemoryMap → ℕ
cost_beyond c = growths c.pending c.known.master.entries c.known.directories + total pinned_cost c.live
    + total pending_cost c.pending

-- each version is whole
abbrev pub AreStanding : List (Option LiveVersion) → Type 0
AreStanding live = AllByRecursion (λ o. IfSome o (λ v. IsWholeVersion (as_known v))) live

pub record IsWholePending (size : ℕ) (p : PendingVersion) : Type 0 where
  pub whole : IsWholeVersion (as_written p)
  pub inside : AllByRecursion (InSpace size) p.version.blocks
  -- retrieval blocks come with its publication
  pub bare : p.version.ribs ≡ []

abbrev pub AreWaiting : ℕ → List (Option PendingVersion) → Type 0
AreWaiting size pending = AllByRecursion (λ o. IfSome o (IsWholePending size)) pending

-- The file of a place has this version: it is current, and its prime block is the one that the place's entry names.
pub record IsCurrentAt (c : MemoryMap) (ppn : ℕ) (name : FileName) (v : LiveVersion) : Type 0 where
  pub key : ℕ
  pub there : slot c.live key ≡ Some v
  pub current : v.is_current ≡ true
  pub at : prime_in c.known.master.entries c.known.directories ppn name ≡ Some v.at

-- What a version that is being written shares. Its blocks are its own, except those that it has of the file of its
-- place, or of a version that the file had before.
pub record IsApart (c : MemoryMap) (p : PendingVersion) : Type 0 where
  -- no block occurs in it twice
  pub once : (n : ℕ) → times n p.version.blocks ≤ 1
  -- one whose bit is set is a block of the file of its place
  pub shared : (n : ℕ) → 0 < times n p.version.blocks → 0 < bit c.known.table n
      → (v : LiveVersion) × IsCurrentAt c p.prime.ppn p.prime.file v × (0 < times n v.version.blocks)
  -- if another version that is being written has one of them, too, both are of the same place
  pub places : (key : ℕ) (q : PendingVersion) → pending_at c.pending key ≡ Some q → (n : ℕ)
      → 0 < times n p.version.blocks → 0 < times n q.version.blocks
      → (p.prime.ppn ≡ q.prime.ppn) × (p.prime.file ≡ q.prime.file)

-- What holds in memory, whatever the disk does.
pub record IsWholeMemory (size : ℕ) (c : MemoryMap) : Type 0 where
  pub map : IsWholeMap size c.known
  pub keyed : AllZip (IsKeyed c.live) c.known.directories c.keys
  pub standing : AreStanding c.live
  pub waiting : AreWaiting size c.pending
  -- the versions that are current are those of the entries
  pub current : (n : ℕ) → total (current_reaches n) c.live ≡ entry_reaches n c.known.directories
  -- nothing is being created in a directory that doesn't exist
  pub housed : (ppn : ℕ) → find nat_cmp ppn c.known.master.entries ≡ None → total (creates ppn) c.pending ≡ 0
  -- a block is held as often as it occurs in versions that are no longer current, or not yet
  pub held : (n : ℕ) → holds c.known.table n ≡ total (pinned_reaches n) c.live + total (pending_reaches n) c.pending
  pub inside : (n : ℕ) → 0 < holds c.known.table n → InSpace size n
  -- what a version that is being written shares belongs to its place
  pub own : (key : ℕ) (p : PendingVersion) → pending_at c.pending key ≡ Some p → IsApart c p
  -- no block that is held occurs in a chain
  pub apart : (n : ℕ) → 0 < holds c.known.table n
      → times n c.known.master.blocks + total (λ d. times n d.chain.blocks) c.known.directories ≡ 0
  -- nor is it the prime block of a file
  pub primes : (key : ℕ) (v : LiveVersion) → slot c.live key ≡ Some v → v.is_current ≡ true
      → holds c.known.table v.at ≡ 0
  -- what is booked is what the map costs, and what is beyond it
  pub fits : c.known.table.booked < 2 ^ 63
  pub booked : c.known.table.booked ≡ cost_of_known c.known.master c.known.directories + cost_beyond c
  -- if anything is booked beyond the map, the booking is at most twice as many blocks as the disk has; and while
  -- anything is being written, it is within the free space
  pub beyond : 0 < cost_beyond c → c.known.table.booked ≤ 2 * size
  pub within : 0 < total pending_cost c.pending → c.known.table.booked ≤ space size
