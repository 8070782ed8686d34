-- The deletion of a file: what it does to memory, to the table and to the disk.
use Rattle.std.specs.Prelude.{◌≡◌, ℕ, ◌+◌, ◌-◌, ◌≤◌, true, false, List, [], ◌++◌, length, replicate, slice_get}
use Rattle.std.specs.Prelude.{slice_set, Option, None, Some}
use Rattle.std.specs.List.{AllZip}
use Rattle.std.specs.Ordering.{nat_cmp}
use Rattle.words36.specs.declared.names.FileName.{FileName}
use Rattle.spec_image.specs.declared.put.Put.{Put}
use Rattle.spec_image.specs.Common.{file_removed, directory_cost, SpecFileEntry, file_words, IsFileEntry, File, Files}
use Rattle.spec_image.specs.Common.{Directory, name_cmp, get, insert, remove, from_entries, total, times}
use Rattle.spec_image.specs.Common.{table_blocks}
use Rattle.alloctab.specs.Common.{IsTable, bit, holds}
use Rattle.directory.specs.Common.{IsChain, StandsAt, PutsChain}
use Rattle.volume.specs.BeginVersion.{entries_with}
use Rattle.volume.specs.CurrentMap.{IsNamed, CurrentVersion, CurrentDirectory, CurrentMap, blocks_reached}
use Rattle.volume.specs.CurrentMap.{reaches_in_entries}
use Rattle.volume.specs.CurrentMap.{cost_of_version}
use Rattle.volume.specs.MemoryMap.{MemoryMap, as_known, slot, IsKeyed, pinned_reaches, pinned_cost}
use Rattle.volume.specs.MakeDir.{PutsTable}
use Rattle.volume.specs.PublishVersion.{live_left}
use Rattle.volume.specs.declared.live.LiveVersion.{LiveVersion}

-- Files.

abbrev pub files_without : Option (Directory File) → Files File → ℕ → FileName → Files File
files_without None files ppn name = files
files_without (Some d) files ppn name = insert files ppn (file_removed d name)

-- the files without the one of this name, if the directory exists
abbrev pub files_removed : Files File → ℕ → FileName → Files File
files_removed files ppn name = files_without (get files ppn) files ppn name

-- One directory.

-- The name, which had this prime block and version, has no entry any more.
pub record IsEntryRemoved (d d' : CurrentDirectory) (name : FileName) (old : ℕ × CurrentVersion) : Type 0 where
  pub was : IsNamed d name (Some old)
  pub chain : IsChain name_cmp IsFileEntry d'.chain
  pub aligned : length d'.versions ≡ length d'.chain.entries
  pub count : length d'.chain.entries + 1 ≡ length d.chain.entries
  pub names : from_entries {R = name_cmp} d'.chain.entries ≡ remove (from_entries d.chain.entries) name
  -- each entry is one of another name, as it was
  pub each : (i : ℕ) (e : SpecFileEntry) (u : CurrentVersion) → slice_get d'.chain.entries i ≡ Some e
      → slice_get d'.versions i ≡ Some u
      → (e.0 ≡ name → ⊥) × (j : ℕ) × (slice_get d.chain.entries j ≡ Some e) × (slice_get d.versions j ≡ Some u)
  pub reaches : (n : ℕ) → reaches_in_entries n d'.chain.entries d'.versions
      + times n (blocks_reached old.0 old.1.version)
      ≡ reaches_in_entries n d.chain.entries d.versions
  pub cost : total cost_of_version d'.versions + cost_of_version old.1 ≡ total cost_of_version d.versions

-- The map.

-- The file with this prime block and version is gone in memory, and these puts will make it so on the disk.
pub record IsRemoved (size : ℕ) (k k' : CurrentMap) (ppn : ℕ) (name : FileName) (old : ℕ × CurrentVersion)
    (puts : List Put) : Type 0 where
  pub place : ℕ
  pub word : ℕ × ℕ
  pub there : StandsAt nat_cmp k.master.entries ppn word place
  pub directory : CurrentDirectory
  pub directory' : CurrentDirectory
  pub directory_at : slice_get k.directories place ≡ Some directory
  pub master : k'.master ≡ k.master
  pub directories : k'.directories ≡ slice_set k.directories place directory'
  -- the block that its chain frees, if its last one is left empty
  pub left : List ℕ
  pub blocks : directory.chain.blocks ≡ directory'.chain.blocks ++ left
  pub entry : IsEntryRemoved directory directory' name old
  pub chain_puts : List Put
  pub put_chain : PutsChain file_words directory.chain directory'.chain [] chain_puts
  pub few : length chain_puts ≤ 2
  pub size_is : k'.table.size ≡ k.table.size
  pub bits : (n : ℕ) → bit k'.table n + times n (left ++ blocks_reached old.0 old.1.version) ≡ bit k.table n
  pub put : PutsTable size k.table k'.table chain_puts puts

-- Memory.

-- The file of this place is gone, and with it its version, under `key`: that is removed, or stays for its readers.
pub record RemovesFile (size : ℕ) (c c' : MemoryMap) (ppn : ℕ) (name : FileName) (key : ℕ) (v : LiveVersion)
    (puts : List Put) : Type 0 where
  pub removed : IsRemoved size c.known c'.known ppn name (v.at, as_known v) puts
  pub pending : c'.pending ≡ c.pending
  pub there : slot c.live key ≡ Some v
  pub current : v.is_current ≡ true
  pub ended : slot c'.live key ≡ live_left (Some (key, v))
  pub others : (k : ℕ) → (k ≡ key → ⊥) → slot c'.live k ≡ slot c.live k
  pub keyed : AllZip (IsKeyed c'.live) c'.known.directories c'.keys
  -- while the version is pinned, its blocks are held and its cost stays booked
  pub held : (n : ℕ) → holds c'.known.table n ≡ holds c.known.table n + pinned_reaches n (live_left (Some (key, v)))
  -- what the directory costs less is unbooked; names that are being created count as its entries
  pub booked : c'.known.table.booked + cost_of_version (as_known v)
      + (directory_cost (entries_with c removed.directory ppn)
      - directory_cost (entries_with c removed.directory ppn - 1))
      ≡ c.known.table.booked + pinned_cost (live_left (Some (key, v)))
  pub unchanged : c'.known.table.changed ≡ replicate (table_blocks size) false
  -- no block after the end of the disk is held
  pub sound : IsTable c'.known.table
