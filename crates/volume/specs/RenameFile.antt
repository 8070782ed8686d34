-- A file gets another place, or the same one, and another protection: what this does to memory and to the disk. Its
-- words and its blocks stay; what its prime block says of the place and of the protection is rewritten.
use Rattle.std.specs.Prelude.{◌≡◌, ◌⊎◌, ℕ, suc, ◌+◌, ◌-◌, ◌^◌, ◌<◌, ◌≤◌, true, false, List, [], ◌∷◌, ◌++◌, length}
use Rattle.std.specs.Prelude.{replicate, map, take, drop, slice_get, slice_set, Option, None, Some, IsSome}
use Rattle.std.specs.List.{AllByRecursion, AllZip}
use Rattle.std.specs.Ordering.{nat_cmp}
use Rattle.std.specs.FinMap.Entries.{find}
use Rattle.words36.specs.declared.names.FileName.{FileName}
use Rattle.changeset.specs.Common.{replaced}
use Rattle.spec_image.specs.declared.code.ErrorCode.TheVariants.{NameExists}
use Rattle.spec_image.specs.declared.put.Put.{Put}
use Rattle.spec_image.specs.Common.{directory_cost, SpecFileEntry, file_words, IsFileEntry, File, Files, Directory}
use Rattle.spec_image.specs.Common.{name_cmp, InSpace, get, insert, remove, from_entries, total, times, table_blocks}
use Rattle.spec_image.specs.Common.{growth}
use Rattle.alloctab.specs.Common.{IsTable, IsFree, bit, holds, space}
use Rattle.directory.specs.Common.{IsChain, viewed, StandsAt, Places, IsReserve, PutsChain, inserted, removed}
use Rattle.directory.specs.Common.{last_first, IsSpareFor}
use Rattle.retrieval.specs.Common.{IsRewritten}
use Rattle.retrieval.specs.declared.prime.Prime.{Prime}
use Rattle.volume.specs.BeginVersion.{entries_with, IsDirectoryOf}
use Rattle.volume.specs.MemoryValues.{file_view, master_view}
use Rattle.volume.specs.CurrentMap.{IsNamed, CurrentVersion, CurrentDirectory, CurrentMap, reaches_in_entries}
use Rattle.volume.specs.CurrentMap.{cost_of_version}
use Rattle.volume.specs.MemoryMap.{MemoryMap, as_known, slot, creates, IsKeyed}
use Rattle.volume.specs.LiveMemory.{memory_of}
use Rattle.volume.specs.MakeDir.{PutsTable}
use Rattle.volume.specs.PinVersion.{IsKeyOf, IsNoFile}
use Rattle.volume.specs.PublishVersion.{Marks, IsEntryPut, files_published}
use Rattle.volume.specs.DeleteFile.{IsEntryRemoved, files_removed}
use Rattle.volume.specs.declared.error.CallError.{CallError}
use Rattle.volume.specs.declared.error.CallError.TheVariants.{Refused}
use Rattle.volume.specs.declared.live.LiveDirectory.{LiveDirectory}
use Rattle.volume.specs.declared.live.LiveMap.{LiveMap}
use Rattle.volume.specs.declared.live.LiveVersion.{LiveVersion}

-- Files.

abbrev pub file_protected : File → ℕ → File
file_protected file protection = record file { protection = protection }

-- the file that a name has in a directory, if there are both
abbrev pub file_in : Option (Directory File) → FileName → Option File
file_in None name = None
file_in (Some d) name = get d.files name

abbrev pub files_moved_as : Option File → Files File → ℕ → FileName → ℕ → FileName → ℕ → Files File
files_moved_as None files ppn name to_ppn to protection = files
files_moved_as (Some file) files ppn name to_ppn to protection =
    files_published (files_removed files ppn name) to_ppn to (file_protected file protection)

-- the files with the one of the first place at the second, with this protection
abbrev pub files_moved : Files File → ℕ → FileName → ℕ → FileName → ℕ → Files File
files_moved files ppn name to_ppn to protection =
    files_moved_as (file_in (get files ppn) name) files ppn name to_ppn to protection

-- Its prime block says this place and this protection; mode and moment are those of before.
pub record IsPrimeMoved (old new : Prime) (ppn : ℕ) (to : FileName) (protection : ℕ) : Type 0 where
  pub file : new.file ≡ to
  pub owner : new.ppn ≡ ppn
  pub protected : new.protection ≡ protection
  pub mode : new.mode ≡ old.mode
  pub moment : new.moment ≡ old.moment

-- One directory.

-- The name isn't there, or is the other one.
abbrev pub IsFreeFor : CurrentDirectory → FileName → FileName → Type 0
IsFreeFor d name to = (to ≡ name) ⊎ IsNamed d to None

-- The entry of a name, with this prime block and version before, is that of another name, or of the same one, with the
-- version `v`, in the same blocks.
pub record IsEntryRenamed (d d' : CurrentDirectory) (name to : FileName) (old : ℕ × CurrentVersion)
    (v : CurrentVersion) : Type 0 where
  pub was : IsNamed d name (Some old)
  pub free : IsFreeFor d name to
  pub lies : v.version ≡ old.1.version
  pub chain : IsChain name_cmp IsFileEntry d'.chain
  pub blocks : d'.chain.blocks ≡ d.chain.blocks
  pub aligned : length d'.versions ≡ length d'.chain.entries
  pub count : length d'.chain.entries ≡ length d.chain.entries
  pub names : from_entries {R = name_cmp} d'.chain.entries
      ≡ insert (remove (from_entries d.chain.entries) name) to old.0
  -- each entry is the new one, or one of another name, as it was
  pub each : (i : ℕ) (e : SpecFileEntry) (u : CurrentVersion) → slice_get d'.chain.entries i ≡ Some e
      → slice_get d'.versions i ≡ Some u
      → ((e ≡ (to, old.0)) × (u ≡ v)) ⊎ ((e.0 ≡ to → ⊥) × (e.0 ≡ name → ⊥) × (j : ℕ)
      × (slice_get d.chain.entries j ≡ Some e) × (slice_get d.versions j ≡ Some u))
  pub reaches : (n : ℕ) → reaches_in_entries n d'.chain.entries d'.versions
      ≡ reaches_in_entries n d.chain.entries d.versions
  pub cost : total cost_of_version d'.versions ≡ total cost_of_version d.versions

-- Refusals.

-- the place has a file
abbrev pub HasFile : MemoryMap → ℕ → FileName → Type 0
HasFile c ppn name = (d : CurrentDirectory) × IsDirectoryOf c ppn d × (find name_cmp name d.chain.entries ≡ None → ⊥)

-- The name is new in a directory that grows for it, and there is no room for what that costs.
abbrev pub HasNoRoom : ℕ → MemoryMap → ℕ → FileName → Type 0
HasNoRoom size c ppn name = (d : CurrentDirectory) × IsDirectoryOf c ppn d
    × (find name_cmp name d.chain.entries ≡ None) × (0 < growth (entries_with c d ppn))
    × (space size < c.known.table.booked + growth (entries_with c d ppn))

-- The new name is another one, and exists already, besides the file.
pub record IsNameTaken (c : MemoryMap) (ppn : ℕ) (name to : FileName) : Type 0 where
  pub other : to ≡ name → ⊥
  pub key : ℕ
  pub file : IsKeyOf c ppn name key
  pub taken : (d : CurrentDirectory) → IsDirectoryOf c ppn d → find name_cmp to d.chain.entries ≡ None → ⊥

-- what refuses another name: there is no such file, or the name is taken
abbrev pub IsMoveRefusal : MemoryMap → ℕ → FileName → FileName → CallError → Type 0
IsMoveRefusal c ppn name to error = IsNoFile c ppn name error
    ⊎ ((error ≡ Refused NameExists) × IsNameTaken c ppn name to)

-- The map.

-- The file with prime block and version `old` has another name in its directory in memory, or the same one, and the
-- version `v`; and these puts will make it so on the disk, if the words of the prime block are `words` before.
pub record IsMovedWithin (size : ℕ) (k k' : CurrentMap) (ppn : ℕ) (name to : FileName) (old : ℕ × CurrentVersion)
    (v : CurrentVersion) (words : List ℕ) (puts : List Put) : Type 0 where
  pub place : ℕ
  pub word : ℕ × ℕ
  pub there : StandsAt nat_cmp k.master.entries ppn word place
  pub directory : CurrentDirectory
  pub directory' : CurrentDirectory
  pub directory_at : slice_get k.directories place ≡ Some directory
  pub master : k'.master ≡ k.master
  pub directories : k'.directories ≡ slice_set k.directories place directory'
  pub entry : IsEntryRenamed directory directory' name to old v
  pub chain_puts : List Put
  pub put_chain : PutsChain file_words directory.chain directory'.chain [] chain_puts
  pub few : length chain_puts ≤ 1
  -- no block is taken or freed
  pub table : k'.table ≡ k.table
  -- the prime block is rewritten
  pub anew : List ℕ
  pub rewritten : IsRewritten words anew v.prime
  pub puts_are : puts ≡ replaced (record { block = old.0; words = anew }) chain_puts

-- Memory.

-- The version under `key`, that of the file, stays where it is, and its prime block says the new place and the new
-- protection.
pub record MovesWithin (size : ℕ) (c c' : MemoryMap) (ppn : ℕ) (name to : FileName) (protection key : ℕ)
    (v : LiveVersion) (words : List ℕ) (puts : List Put) : Type 0 where
  pub prime : Prime
  pub prime_is : IsPrimeMoved v.prime prime ppn to protection
  pub moved : IsMovedWithin size c.known c'.known ppn name to (v.at, as_known v)
      (record { prime = prime; version = v.version }) words puts
  pub pending : c'.pending ≡ c.pending
  pub keys : c'.keys ≡ c.keys
  pub there : slot c.live key ≡ Some v
  pub current : v.is_current ≡ true
  pub here : slot c'.live key ≡ Some (record v { prime = prime })
  pub others : (k : ℕ) → (k ≡ key → ⊥) → slot c'.live k ≡ slot c.live k
  pub keyed : AllZip (IsKeyed c'.live) c'.known.directories c'.keys

-- Another directory.

-- The file with prime block and version `old` has left its directory for another one, in which its name is new, and has
-- the version `v` there, in the same blocks; and these puts will make it so on the disk, if the words of the prime
-- block are `words` before.
pub record IsMovedAcross (size : ℕ) (k k' : CurrentMap) (ppn : ℕ) (name : FileName) (to_ppn : ℕ) (to : FileName)
    (old : ℕ × CurrentVersion) (v : CurrentVersion) (words : List ℕ) (puts : List Put) : Type 0 where
  -- the directory that it leaves
  pub place : ℕ
  pub word : ℕ × ℕ
  pub there : StandsAt nat_cmp k.master.entries ppn word place
  pub directory : CurrentDirectory
  pub directory' : CurrentDirectory
  pub directory_at : slice_get k.directories place ≡ Some directory
  pub removed : IsEntryRemoved directory directory' name old
  -- the block that its chain frees, if its last one is left empty
  pub left : List ℕ
  pub blocks : directory.chain.blocks ≡ directory'.chain.blocks ++ left
  -- the one that it moves to
  pub to_place : ℕ
  pub to_word : ℕ × ℕ
  pub to_there : StandsAt nat_cmp k.master.entries to_ppn to_word to_place
  pub target : CurrentDirectory
  pub target' : CurrentDirectory
  pub target_at : slice_get k.directories to_place ≡ Some target
  pub entered : IsEntryPut target target' to old.0 v None
  pub lies : v.version ≡ old.1.version
  -- the block that its chain takes, if its last one is full
  pub grown : List ℕ
  pub to_blocks : target'.chain.blocks ≡ target.chain.blocks ++ grown
  pub inside : AllByRecursion (InSpace size) grown
  pub fresh : (n : ℕ) → bit k.table n + times n grown ≤ 1
  -- the others stay
  pub apart : to_ppn ≡ ppn → ⊥
  pub master : k'.master ≡ k.master
  pub directories : k'.directories ≡ slice_set (slice_set k.directories to_place target') place directory'
  pub size_is : k'.table.size ≡ k.table.size
  pub bits : (n : ℕ) → bit k'.table n + times n left ≡ bit k.table n + times n grown
  -- what is put: the chains, that of the target first, then the prime block, then the table
  pub target_puts : List Put
  pub put_target : PutsChain file_words target.chain target'.chain [] target_puts
  pub few_target : length target_puts ≤ 2
  pub chain_puts : List Put
  pub put_chain : PutsChain file_words directory.chain directory'.chain target_puts chain_puts
  pub few : length chain_puts ≤ 4
  pub anew : List ℕ
  pub rewritten : IsRewritten words anew v.prime
  pub put_table : PutsTable size k.table k'.table (replaced (record { block = old.0; words = anew }) chain_puts) puts

-- The version under `key`, that of the file, stays where it is, and its prime block says the new place and the new
-- protection.
pub record MovesAcross (size : ℕ) (c c' : MemoryMap) (ppn : ℕ) (name : FileName) (to_ppn : ℕ) (to : FileName)
    (protection key : ℕ) (v : LiveVersion) (words : List ℕ) (puts : List Put) : Type 0 where
  pub prime : Prime
  pub prime_is : IsPrimeMoved v.prime prime to_ppn to protection
  pub moved : IsMovedAcross size c.known c'.known ppn name to_ppn to (v.at, as_known v)
      (record { prime = prime; version = v.version }) words puts
  pub pending : c'.pending ≡ c.pending
  pub there : slot c.live key ≡ Some v
  pub current : v.is_current ≡ true
  pub here : slot c'.live key ≡ Some (record v { prime = prime })
  pub others : (k : ℕ) → (k ≡ key → ⊥) → slot c'.live k ≡ slot c.live k
  pub keyed : AllZip (IsKeyed c'.live) c'.known.directories c'.keys
  -- the block that a chain takes was not held
  pub unheld : (n : ℕ) → 0 < times n moved.grown → holds c.known.table n ≡ 0
  -- what is held stays; the one directory may cost less, and the other one more, for which there is room
  pub held : (n : ℕ) → holds c'.known.table n ≡ holds c.known.table n
  pub booked : c'.known.table.booked + (directory_cost (entries_with c moved.directory ppn)
      - directory_cost (entries_with c moved.directory ppn - 1))
      ≡ c.known.table.booked + growth (entries_with c moved.target to_ppn)
  pub room : 0 < growth (entries_with c moved.target to_ppn)
      → c.known.table.booked + growth (entries_with c moved.target to_ppn) ≤ space size
  pub unchanged : c'.known.table.changed ≡ replicate (table_blocks size) false
  -- no block after the end of the disk is held
  pub sound : IsTable c'.known.table

-- The two steps of it, as they change what is in memory. Between them two entries have one key, so that memory isn't
-- whole there.

-- how many entries the directory has, with those that are being created in it
abbrev pub entries_there : LiveMap → LiveDirectory → ℕ → ℕ
entries_there m d ppn = length (map file_view d.chain.entries) + total (creates ppn) m.pending.slots

-- What is required of a directory that will get one more entry, of this name: it exists, the name is new in it, there
-- is room for what it costs more, and there is enough memory for the entry and for its key.
pub record MayArrive (m : LiveMap) (ppn : ℕ) (name : FileName) (reserve : Places) (keys : ℕ) : Type 0 where
  pub target : find nat_cmp ppn (memory_of m).known.master.entries ≡ None → ⊥
  pub free : (d : CurrentDirectory) → IsDirectoryOf (memory_of m) ppn d → find name_cmp name d.chain.entries ≡ None
  pub room : (d : CurrentDirectory) → IsDirectoryOf (memory_of m) ppn d → 0 < growth (entries_with (memory_of m) d ppn)
      → m.table.booked + growth (entries_with (memory_of m) d ppn) ≤ space m.table.size
  pub fits : (d : LiveDirectory) (place : ℕ) (v : ℕ × ℕ)
      → StandsAt nat_cmp (map master_view m.master.entries) ppn v place
      → slice_get m.directories.items place ≡ Some d
      → IsReserve name_cmp (viewed file_view d.chain) name reserve × IsSpareFor (length d.keys.items) keys

-- A directory has one more entry, of this name, for the version under the key.
pub record Arrives (m m' : LiveMap) (ppn : ℕ) (name : FileName) (key : ℕ) (puts : List Put) : Type 0 where
  pub place : ℕ
  pub word : ℕ × ℕ
  pub there : StandsAt nat_cmp (map master_view m.master.entries) ppn word place
  pub directory : LiveDirectory
  pub directory' : LiveDirectory
  pub directory_at : slice_get m.directories.items place ≡ Some directory
  pub master : m'.master ≡ m.master
  pub versions : m'.versions ≡ m.versions
  pub pending : m'.pending ≡ m.pending
  pub directories : m'.directories.items ≡ slice_set m.directories.items place directory'
  -- the entry with its prime block, and its key
  pub at : ℕ
  pub at_is : (v : LiveVersion) → slot m.versions.slots key ≡ Some v → at ≡ v.at
  pub items : map file_view directory'.chain.entries
      ≡ inserted name_cmp (map file_view directory.chain.entries) (name, at)
  pub names : from_entries {R = name_cmp} (map file_view directory'.chain.entries)
      ≡ insert (from_entries (map file_view directory.chain.entries)) name at
  pub keys : directory'.keys.items ≡ directory.keys.items ++ key ∷ []
  pub chain : IsChain name_cmp IsFileEntry (viewed file_view directory'.chain)
  -- the block that its chain takes, which was free
  pub grown : List ℕ
  pub blocks : directory'.chain.blocks ≡ directory.chain.blocks ++ grown
  pub fresh : (n : ℕ) → bit m.table n + times n grown ≤ 1
  pub free : (n : ℕ) → 0 < times n grown → IsFree m.table n × InSpace m.table.size n
  pub put_chain : PutsChain file_words (viewed file_view directory.chain) (viewed file_view directory'.chain) [] puts
  pub few : length puts ≤ 2
  pub marks : Marks m.table m'.table
  pub bits : (n : ℕ) → bit m'.table n ≡ bit m.table n + times n grown
  pub held : (n : ℕ) → holds m'.table n ≡ holds m.table n
  pub booked : m'.table.booked ≡ m.table.booked + growth (entries_there m directory ppn)

-- What is required of a directory that will lose its entry of this name.
pub record MayGiveUpEntry (m : LiveMap) (d : LiveDirectory) (ppn : ℕ) (name : FileName) : Type 0 where
  pub named : IsSome (find name_cmp name (map file_view d.chain.entries))
  pub aligned : length d.keys.items ≡ length d.chain.entries
  pub few : entries_there m d ppn < 2 ^ 64
  -- the blocks of its chain are in use
  pub set : (n : ℕ) → times n d.chain.blocks ≤ bit m.table n

-- A directory has no entry of this name any more; the last entry has moved into its place, and so has its key.
pub record GivesUpEntry (m m' : LiveMap) (ppn : ℕ) (name : FileName) (before after : List Put) : Type 0 where
  pub place : ℕ
  pub word : ℕ × ℕ
  pub there : StandsAt nat_cmp (map master_view m.master.entries) ppn word place
  pub directory : LiveDirectory
  pub directory' : LiveDirectory
  pub directory_at : slice_get m.directories.items place ≡ Some directory
  pub master : m'.master ≡ m.master
  pub versions : m'.versions ≡ m.versions
  pub pending : m'.pending ≡ m.pending
  pub directories : m'.directories.items ≡ slice_set m.directories.items place directory'
  -- the entry that is removed, and its key
  pub index : ℕ
  pub at : ℕ
  pub stood : StandsAt name_cmp (map file_view directory.chain.entries) name at index
  pub key : ℕ
  pub key_at : slice_get directory.keys.items index ≡ Some key
  pub items : map file_view directory'.chain.entries ≡ removed name_cmp (map file_view directory.chain.entries) name
  pub names : from_entries {R = name_cmp} (map file_view directory'.chain.entries)
      ≡ remove (from_entries (map file_view directory.chain.entries)) name
  pub keys : directory'.keys.items
      ≡ take index directory.keys.items ++ last_first (drop (suc index) directory.keys.items)
  pub chain : IsChain name_cmp IsFileEntry (viewed file_view directory'.chain)
  -- the block that its chain frees
  pub left : List ℕ
  pub blocks : directory.chain.blocks ≡ directory'.chain.blocks ++ left
  pub put_chain : PutsChain file_words (viewed file_view directory.chain) (viewed file_view directory'.chain) before
      after
  pub few : length after ≤ length before + 2
  pub marks : Marks m.table m'.table
  pub bits : (n : ℕ) → bit m'.table n + times n left ≡ bit m.table n
  pub held : (n : ℕ) → holds m'.table n ≡ holds m.table n
  pub booked : m'.table.booked + growth (entries_there m directory' ppn) ≡ m.table.booked
