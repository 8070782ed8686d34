-- A version that was written becomes the file of its name: what this does to memory, to the table and to the disk.
use Rattle.std.specs.Prelude.{◌≡◌, ◌⊎◌, ℕ, ◌+◌, ◌/◌, ◌^◌, ◌<◌, ◌≤◌, ◌==◌, true, false, if◌then◌else◌, List, [], ◌∷◌}
use Rattle.std.specs.Prelude.{◌++◌, length, replicate, slice_get, slice_set, Option, None, Some, IsSome, IfSome}
use Rattle.std.specs.Prelude.{is_none}
use Rattle.std.specs.List.{AllByRecursion, AllZip}
use Rattle.std.specs.Ordering.{nat_cmp}
use Rattle.std.specs.FinMap.Entries.{find}
use Rattle.words36.specs.declared.names.FileName.{FileName}
use Rattle.spec_image.specs.declared.put.Put.{Put}
use Rattle.spec_image.specs.Common.{file_put, cost_of_blocks, SpecFileEntry, file_words, IsFileEntry, InSpace, File}
use Rattle.spec_image.specs.Common.{Files, Directory, name_cmp, get, insert, from_entries, total, times, table_blocks}
use Rattle.spec_image.specs.Common.{most_blocks}
use Rattle.alloctab.specs.Common.{TableState, IsTable, IsChanged, IsFree, bit, holds}
use Rattle.directory.specs.Common.{IsChain, StandsAt, Places, IsReserve, PutsChain, IsSpareFor}
use Rattle.retrieval.specs.Common.{mode_number, VersionState, ribs_of}
use Rattle.retrieval.specs.declared.prime.Prime.{Prime}
use Rattle.volume.specs.BeginVersion.{is_absent, IsDirectoryOf}
use Rattle.volume.specs.CurrentMap.{Before, IsNamed, CurrentVersion, CurrentDirectory, CurrentMap, blocks_reached}
use Rattle.volume.specs.CurrentMap.{given_up}
use Rattle.volume.specs.CurrentMap.{reaches_in_entries, cost_of_version, cost_before}
use Rattle.volume.specs.MemoryMap.{is_creation, MemoryMap, as_known, slot, pending_at, IsKeyed, pinned_reaches}
use Rattle.volume.specs.MemoryMap.{pinned_cost}
use Rattle.volume.specs.MakeDir.{PutsTable}
use Rattle.volume.specs.declared.live.LiveVersion.{LiveVersion}
use Rattle.volume.specs.declared.pending.PendingVersion.{PendingVersion}

-- The table.

-- If a bit has changed, its block of the table is marked; and what was marked stays marked.
pub record Marks (t u : TableState) : Type 0 where
  pub sound : IsTable u
  pub size : u.size ≡ t.size
  pub stays : (i : ℕ) → IsChanged t i → IsChanged u i
  pub moved : (n : ℕ) → (IsChanged u (n / 4608) → ⊥) → bit u n ≡ bit t n

-- The bits of these blocks are set, and nothing else changes.
pub record SetsBits (t u : TableState) (blocks : List ℕ) : Type 0 where
  pub marks : Marks t u
  pub held : u.held ≡ t.held
  pub booked : u.booked ≡ t.booked
  pub bits : (n : ℕ) → bit u n ≡ bit t n + times n blocks

-- They are cleared.
pub record ClearsBits (t u : TableState) (blocks : List ℕ) : Type 0 where
  pub marks : Marks t u
  pub held : u.held ≡ t.held
  pub booked : u.booked ≡ t.booked
  pub bits : (n : ℕ) → bit u n + times n blocks ≡ bit t n

-- Blocks that were held come into use: their bits are set, and one hold of each is released.
pub record PutsInUse (t u : TableState) (blocks : List ℕ) : Type 0 where
  pub marks : Marks t u
  pub booked : u.booked ≡ t.booked
  pub bits : (n : ℕ) → bit u n ≡ bit t n + times n blocks
  pub held : (n : ℕ) → holds u n + times n blocks ≡ holds t n

-- The blocks that a version needs besides its data blocks are taken, its prime block `at` and its ribs, and the block
-- by which a chain grows: each was free, and is held once now.
pub record TakesPlaces (t u : TableState) (grown : List ℕ) (at : ℕ) (ribs : List ℕ) : Type 0 where
  pub marks : Marks t u
  pub booked : u.booked ≡ t.booked
  pub bits : (n : ℕ) → bit u n ≡ bit t n
  pub held : (n : ℕ) → holds u n ≡ holds t n + times n (grown ++ at ∷ ribs)
  pub fresh : (n : ℕ) → bit t n + times n (grown ++ at ∷ ribs) ≤ 1
  pub free : (n : ℕ) → 0 < times n (grown ++ at ∷ ribs) → IsFree t n × InSpace t.size n

-- A version goes out of use: its bits are cleared. While it is pinned, its blocks are held and its cost stays booked.
pub record Retires (t u : TableState) (v : LiveVersion) (left : Option LiveVersion) : Type 0 where
  pub marks : Marks t u
  pub bits : (n : ℕ) → bit u n + times n (blocks_reached v.at v.version) ≡ bit t n
  pub held : (n : ℕ) → holds u n ≡ holds t n + pinned_reaches n left
  pub booked : u.booked + cost_of_blocks (length v.version.blocks) ≡ t.booked + pinned_cost left

-- What is required of the version under a key that will go out of use: its bits are set, its cost is booked, and no
-- block is held too often.
pub record MayRetire (t : TableState) (slots : List (Option LiveVersion)) (key : ℕ) : Type 0 where
  pub there : IsSome (slot slots key)
  pub set : IfSome (slot slots key) (λ v. (n : ℕ) → times n (blocks_reached v.at v.version) ≤ bit t n)
  pub few : IfSome (slot slots key) (λ v. length v.version.blocks ≤ most_blocks)
  pub booked : IfSome (slot slots key) (λ v. cost_of_blocks (length v.version.blocks) ≤ t.booked)
  pub fits : (n : ℕ) → holds t n + 1 < 2 ^ 32

-- Files.

-- the file that a version is, with these words
abbrev pub file_of : Prime → List ℕ → File
file_of prime body = record {
  protection = prime.protection;
  mode = mode_number prime.mode;
  time = prime.moment.minute;
  date = prime.moment.date;
  body = body;
}

abbrev pub files_put_in : Option (Directory File) → Files File → ℕ → FileName → File → Files File
files_put_in None files ppn name file = files
files_put_in (Some d) files ppn name file = insert files ppn (file_put d name file)

-- the files with this one under its name, if the directory exists
abbrev pub files_published : Files File → ℕ → FileName → File → Files File
files_published files ppn name file = files_put_in (get files ppn) files ppn name file

-- One directory.

-- how many entries more the directory has if there was no such entry before
abbrev pub added : Before → ℕ
added None = 1
added (Some v) = 0

-- The name has this prime block and version now: in place of those before, or after the others.
pub record IsEntryPut (d d' : CurrentDirectory) (name : FileName) (at : ℕ) (v : CurrentVersion)
    (old : Before) : Type 0 where
  pub was : IsNamed d name old
  pub chain : IsChain name_cmp IsFileEntry d'.chain
  pub aligned : length d'.versions ≡ length d'.chain.entries
  pub count : length d'.chain.entries ≡ length d.chain.entries + added old
  pub names : from_entries {R = name_cmp} d'.chain.entries ≡ insert (from_entries d.chain.entries) name at
  -- each entry is the new one, or one of another name, as it was
  pub each : (i : ℕ) (e : SpecFileEntry) (u : CurrentVersion) → slice_get d'.chain.entries i ≡ Some e
      → slice_get d'.versions i ≡ Some u
      → ((e ≡ (name, at)) × (u ≡ v)) ⊎ ((e.0 ≡ name → ⊥) × (j : ℕ) × (slice_get d.chain.entries j ≡ Some e)
      × (slice_get d.versions j ≡ Some u))
  pub reaches : (n : ℕ) → reaches_in_entries n d'.chain.entries d'.versions + given_up n old
      ≡ reaches_in_entries n d.chain.entries d.versions + times n (blocks_reached at v.version)
  pub cost : total cost_of_version d'.versions + cost_before old ≡ total cost_of_version d.versions + cost_of_version v

-- The map.

-- The version under prime block `at` has become the file of its name in memory, and these puts will make it so on the
-- disk.
pub record IsPublished (size : ℕ) (k k' : CurrentMap) (ppn : ℕ) (name : FileName) (at : ℕ) (v : CurrentVersion)
    (old : Before) (puts : List Put) : Type 0 where
  pub place : ℕ
  pub word : ℕ × ℕ
  pub there : StandsAt nat_cmp k.master.entries ppn word place
  pub directory : CurrentDirectory
  pub directory' : CurrentDirectory
  pub directory_at : slice_get k.directories place ≡ Some directory
  pub master : k'.master ≡ k.master
  pub directories : k'.directories ≡ slice_set k.directories place directory'
  -- the block that its chain takes, if its last one is full
  pub grown : List ℕ
  pub blocks : directory'.chain.blocks ≡ directory.chain.blocks ++ grown
  pub entry : IsEntryPut directory directory' name at v old
  pub chain_puts : List Put
  pub put_chain : PutsChain file_words directory.chain directory'.chain [] chain_puts
  pub few : length chain_puts ≤ 2
  pub inside : AllByRecursion (InSpace size) (grown ++ blocks_reached at v.version)
  -- the blocks that were taken for it were in no place, and each block is in one place after the version before is out
  -- of use
  pub fresh : (n : ℕ) → bit k.table n + times n (grown ++ at ∷ v.version.ribs) ≤ 1
  pub once : (n : ℕ) → bit k.table n + times n (grown ++ blocks_reached at v.version) ≤ 1 + given_up n old
  pub size_is : k'.table.size ≡ k.table.size
  pub bits : (n : ℕ) → bit k'.table n + given_up n old ≡ bit k.table n + times n (grown ++ blocks_reached at v.version)
  pub put : PutsTable size k.table k'.table chain_puts puts

-- Memory.

-- A version that an entry had, with its key, if there was one.
abbrev pub Entered : Type 0
Entered = Option (ℕ × LiveVersion)

abbrev pub before : Entered → Before
before None = None
before (Some o) = Some (o.1.at, as_known o.1)

-- what is left of it: nothing, or while it is pinned a version that is no longer current
abbrev pub live_left : Entered → Option LiveVersion
live_left None = None
live_left (Some o) = if o.1.readers == 0 then None else Some (record o.1 { is_current = false })

abbrev pub IsEnded : List (Option LiveVersion) → List (Option LiveVersion) → Entered → Type 0
IsEnded live live' None = Unit {0}
IsEnded live live' (Some o) = (slot live o.0 ≡ Some o.1) × (o.1.is_current ≡ true)
    × (slot live' o.0 ≡ live_left (Some o))

abbrev pub HasOtherKey : Entered → ℕ → Type 0
HasOtherKey None k = Unit {0}
HasOtherKey (Some o) k = k ≡ o.0 → ⊥

-- The version under `key`, which was being written, has become the file of its name, with prime block `at` and these
-- ribs.
pub record MakesCurrent (size : ℕ) (c c' : MemoryMap) (key : ℕ) (p : PendingVersion) (at : ℕ) (ribs : List ℕ)
    (puts : List Put) : Type 0 where
  pub old : Entered
  pub published : IsPublished size c.known c'.known p.prime.ppn p.prime.file
      at (record { prime = p.prime; version = record p.version { ribs = ribs } }) (before old) puts
  pub few_ribs : length ribs ≡ ribs_of p.version.blocks
  -- it is no longer being written
  pub written : pending_at c.pending key ≡ Some p
  pub gone : pending_at c'.pending key ≡ None
  pub other_pending : (k : ℕ) → (k ≡ key → ⊥) → pending_at c'.pending k ≡ pending_at c.pending k
  -- its name was new exactly if it is a creation
  pub is_new : is_creation p ≡ is_none old
  -- it is current, under a key of its own, and the one before is not
  pub new_key : ℕ
  pub vacant : slot c.live new_key ≡ None
  pub here : slot c'.live new_key ≡ Some
      (record { prime = p.prime; version = record p.version { ribs = ribs }; at = at; readers = 0; is_current = true })
  pub ended : IsEnded c.live c'.live old
  pub others : (k : ℕ) → (k ≡ new_key → ⊥) → HasOtherKey old k → slot c'.live k ≡ slot c.live k
  pub keyed : AllZip (IsKeyed c'.live) c'.known.directories c'.keys
  -- its blocks are no longer held; those of the one before are while it is pinned
  pub unheld : (n : ℕ) → 0 < times n (published.grown ++ at ∷ ribs) → holds c.known.table n ≡ 0
  pub held : (n : ℕ) → holds c'.known.table n + times n p.version.blocks
      ≡ holds c.known.table n + pinned_reaches n (live_left old)
  pub booked : c'.known.table.booked + cost_before (before old) ≡ c.known.table.booked + pinned_cost (live_left old)
  pub unchanged : c'.known.table.changed ≡ replicate (table_blocks size) false
  -- no block after the end of the disk is held
  pub sound : IsTable c'.known.table

-- A version that may be published: its name isn't zero, its directory exists, and has an entry of its name exactly if
-- the version isn't new.
pub record IsPlaced (c : MemoryMap) (p : PendingVersion) : Type 0 where
  pub named : 0 < p.prime.file.name
  pub directory : CurrentDirectory
  pub there : IsDirectoryOf c p.prime.ppn directory
  pub is_new : is_creation p ≡ is_absent p.prime.file directory

-- Memory for its entry and its key, if its name is new.
pub record IsSupplied (c : MemoryMap) (p : PendingVersion) (reserve : Places)
    (keys : ℕ) : Type 0 where
  pub fits : (d : CurrentDirectory) → IsDirectoryOf c p.prime.ppn d → IsReserve name_cmp d.chain p.prime.file reserve
  pub roomy : (i : ℕ) (w : ℕ × ℕ) (d : CurrentDirectory) (ks : List ℕ)
      → StandsAt nat_cmp c.known.master.entries p.prime.ppn w i → slice_get c.known.directories i ≡ Some d
      → slice_get c.keys i ≡ Some ks
      → find name_cmp p.prime.file d.chain.entries ≡ None → IsSpareFor (length ks) keys

-- What a publication does to memory: the version has its last words put, so that it has `words` words, and becomes the
-- file of its name.
pub record IsPublishedMemory (size : ℕ) (c c' : MemoryMap) (key : ℕ) (p : PendingVersion) (words : ℕ) : Type 0 where
  -- memory with the last words put
  pub put : MemoryMap
  pub version : VersionState
  pub length_is : version.words ≡ words
  pub live : put.live ≡ c.live
  pub keys : put.keys ≡ c.keys
  pub known : put.known ≡ record c.known { table = put.known.table }
  pub others : (k : ℕ) → (k ≡ key → ⊥) → pending_at put.pending k ≡ pending_at c.pending k
  pub at : ℕ
  pub ribs : List ℕ
  pub puts : List Put
  pub makes_current : MakesCurrent size put c' key (record p { version = version }) at ribs puts
