-- The deletion of a directory without files: what it does to memory, to the table and to the disk.
use Rattle.std.specs.Prelude.{◌≡◌, ℕ, suc, ◌+◌, ◌-◌, ◌<◌, ◌≤◌, false, List, [], ◌++◌, length, replicate, take, drop}
use Rattle.std.specs.Prelude.{slice_get, Some}
use Rattle.std.specs.Ordering.{nat_cmp}
use Rattle.spec_image.specs.declared.put.Put.{Put}
use Rattle.spec_image.specs.Common.{directory_cost, master_words, IsMasterEntryOf, File, Files, remove, from_entries}
use Rattle.spec_image.specs.Common.{total, times, table_blocks}
use Rattle.alloctab.specs.Common.{IsTable, bit}
use Rattle.directory.specs.Common.{IsChain, StandsAt, PutsChain, removed, last_first}
use Rattle.volume.specs.BeginVersion.{entries_with, IsDirectoryOf}
use Rattle.volume.specs.CurrentMap.{CurrentDirectory, CurrentMap}
use Rattle.volume.specs.MemoryMap.{MemoryMap, creates}
use Rattle.volume.specs.MakeDir.{PutsTable}

-- Files.

-- the files without this directory
abbrev pub directory_removed : Files File → ℕ → Files File
directory_removed files ppn = remove files ppn

-- Empty directories. A name that is being created counts as an entry.

-- There is one at this place of the master directory.
pub record IsEmptyAt (c : MemoryMap) (ppn place : ℕ) : Type 0 where
  pub word : ℕ × ℕ
  pub there : StandsAt nat_cmp c.known.master.entries ppn word place
  pub directory : CurrentDirectory
  pub directory_at : slice_get c.known.directories place ≡ Some directory
  pub empty : entries_with c directory ppn ≡ 0

-- The directory exists, and isn't empty.
abbrev pub HasEntries : MemoryMap → ℕ → Type 0
HasEntries c ppn = (d : CurrentDirectory) × IsDirectoryOf c ppn d × (0 < entries_with c d ppn)

-- what the master directory costs less with one entry fewer
abbrev pub less_master : CurrentMap → ℕ
less_master k = directory_cost (length k.master.entries) - directory_cost (length k.master.entries - 1)

-- The map.

-- The directory is gone in memory, and these puts will make it so on the disk.
pub record IsDirectoryRemoved (size : ℕ) (k k' : CurrentMap) (ppn : ℕ) (puts : List Put) : Type 0 where
  pub place : ℕ
  pub word : ℕ × ℕ
  pub there : StandsAt nat_cmp k.master.entries ppn word place
  -- it has no entry, and so one block
  pub directory : CurrentDirectory
  pub directory_at : slice_get k.directories place ≡ Some directory
  pub no_entries : directory.chain.entries ≡ []
  pub one_block : length directory.chain.blocks ≡ 1
  -- the master directory without its entry, and the block that its chain frees, if its last one is left empty
  pub left : List ℕ
  pub chain : IsChain nat_cmp (IsMasterEntryOf 2) k'.master
  pub blocks : k.master.blocks ≡ k'.master.blocks ++ left
  pub entries : k'.master.entries ≡ removed nat_cmp k.master.entries ppn
  pub names : from_entries {R = nat_cmp} k'.master.entries ≡ remove (from_entries k.master.entries) ppn
  -- the last directory moves into its place, as its entry does
  pub directories : k'.directories ≡ take place k.directories ++ last_first (drop (suc place) k.directories)
  pub chain_puts : List Put
  pub put_chain : PutsChain master_words k.master k'.master [] chain_puts
  pub few : length chain_puts ≤ 2
  -- the blocks go out of use, and what they cost is unbooked
  pub size_is : k'.table.size ≡ k.table.size
  pub bits : (n : ℕ) → bit k'.table n + times n (left ++ directory.chain.blocks) ≡ bit k.table n
  pub held : k'.table.held ≡ k.table.held
  pub booked : k'.table.booked + (1 + less_master k) ≡ k.table.booked
  pub unchanged : k'.table.changed ≡ replicate (table_blocks size) false
  pub put : PutsTable size k.table k'.table chain_puts puts
  pub sound : IsTable k'.table

-- Memory.

-- The directory, in which no file was being created, is gone with the list of its keys; all versions stay.
pub record RemovesDirectory (size : ℕ) (c c' : MemoryMap) (ppn : ℕ) (puts : List Put) : Type 0 where
  pub removed : IsDirectoryRemoved size c.known c'.known ppn puts
  pub uncreated : total (creates ppn) c.pending ≡ 0
  pub keys : c'.keys ≡ take removed.place c.keys ++ last_first (drop (suc removed.place) c.keys)
  pub live : c'.live ≡ c.live
  pub pending : c'.pending ≡ c.pending
