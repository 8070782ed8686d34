-- The making of a directory: what it does to memory, to the table and to the disk.
use Rattle.std.specs.Prelude.{◌≡◌, ◌⊎◌, ℕ, ◌+◌, ◌-◌, ◌*◌, ◌/◌, ◌<◌, ◌≤◌, ◌==◌, if◌then◌else◌, true, false, List, []}
use Rattle.std.specs.Prelude.{◌∷◌, ◌++◌, length, replicate, option_to_list, None, IsSome}
use Rattle.std.specs.List.{AllByRecursion}
use Rattle.std.specs.Ordering.{nat_cmp}
use Rattle.std.specs.FinMap.Entries.{find}
use Rattle.blockdisk.specs.Common.{Contents}
use Rattle.spec_image.specs.declared.put.Put.{Put}
use Rattle.spec_image.specs.Common.{insert, empty, times, File, Files, table_blocks, table_start, space_start}
use Rattle.spec_image.specs.Common.{IsTarget, targets, with_puts, table_bit, SpecMasterEntry, master_word, master_words}
use Rattle.spec_image.specs.Common.{DiskMap, bare_directory, with_directory, InSpace, IsMasterEntryOf}
use Rattle.alloctab.specs.Common.{TableState, IsTable, IsFree, IsChanged, bit, holds, space, with_bit, with_held}
use Rattle.directory.specs.Common.{ChainState, IsChain, PutsChain}
use Rattle.volume.specs.declared.make_dir.FreshBlocks.{FreshBlocks}
use Rattle.volume.specs.CurrentMap.{CurrentDirectory, CurrentMap}

-- as many directories as entries of the master directory
abbrev pub IsAligned : CurrentMap → Type 0
IsAligned k = length k.directories ≡ length k.master.entries

-- the table with n more blocks booked
abbrev pub with_booked : TableState → ℕ → TableState
with_booked t n = record t { booked = t.booked + n }

-- the table with a block held once more
abbrev pub taken : TableState → ℕ → TableState
taken t n = with_held t n (holds t n + 1)

-- the table with one hold of a block released
abbrev pub released : TableState → ℕ → TableState
released t n = with_held t n (holds t n - 1)

-- the table with a block that was taken brought into use
abbrev pub put_in_use : TableState → ℕ → TableState
put_in_use t n = released (with_bit t n true) n

-- The table `u` is `t` with blocks in use that were free; where it differs, its block is marked.
pub record Uses (t u : TableState) (blocks : List ℕ) : Type 0 where
  pub sound : IsTable u
  pub size : u.size ≡ t.size
  pub held : u.held ≡ t.held
  pub booked : u.booked ≡ t.booked
  pub bits : (n : ℕ) → bit u n ≡ bit t n + times n blocks
  pub moved : (n : ℕ) → (IsChanged u (n / 4608) → ⊥) → bit u n ≡ bit t n

-- Blocks that were free come into use: their bits are set. Nothing is held that wasn't before, and no block of the
-- table is left to be put.
pub record TakesBlocks (t t' : TableState) (blocks : List ℕ) : Type 0 where
  pub size : t'.size ≡ t.size
  pub held : t'.held ≡ t.held
  pub booked : t'.booked ≡ t.booked
  pub changed : t'.changed ≡ replicate (table_blocks t.size) false
  pub bits : (n : ℕ) → bit t' n ≡ bit t n + times n blocks

-- The puts `after` are those of `before` and the ones that make the new table of the old one.
pub record PutsTable (size : ℕ) (t t' : TableState) (before after : List Put) : Type 0 where
  pub spells : (c : Contents) → ((n : ℕ) → table_bit size (with_puts before c) n ≡ bit t n) → (n : ℕ)
      → table_bit size (with_puts after c) n ≡ bit t' n
  pub undamaged : (c : Contents) → ((i : ℕ) → i < table_blocks size
      → IsSome (with_puts before c (table_start size + i))) → (i : ℕ) → i < table_blocks size
      → IsSome (with_puts after c (table_start size + i))
  -- nothing else changes
  pub others : (c : Contents) (n : ℕ) → (n < table_start size) ⊎ (space_start size ≤ n)
      → with_puts after c n ≡ with_puts before c n
  pub in_range : AllByRecursion (IsTarget size) (targets before) → AllByRecursion (IsTarget size) (targets after)
  pub few : length after ≤ length before + table_blocks size

-- A directory is made.

-- how many blocks the master directory takes for one entry more
abbrev pub chain_growth : ChainState SpecMasterEntry → ℕ
chain_growth chain = if length chain.entries == 42 * length chain.blocks then 1 else 0

-- the blocks that a new directory takes, its own first
abbrev pub fresh_list : FreshBlocks → List ℕ
fresh_list fresh = fresh.directory ∷ option_to_list fresh.master

abbrev pub entry_made : ℕ → ℕ → ℕ → SpecMasterEntry
entry_made ppn protection first = (ppn, (master_word protection 0, first))

-- an empty directory in this block
abbrev pub bare_known : ℕ → CurrentDirectory
bare_known first = record { chain = record { blocks = first ∷ []; entries = [] }; versions = [] }

-- the map with it
abbrev pub map_made : DiskMap → List ℕ → ℕ → ℕ → ℕ → DiskMap
map_made m chain ppn protection first = with_directory m chain ppn (bare_directory protection 0 (first ∷ []))

-- the files with it
abbrev pub files_made : Files File → ℕ → ℕ → Files File
files_made f ppn protection = insert f ppn (record { protection = protection; quota = 0; files = empty })

-- Chains and directories are as before, with the new directory, which has its entry in the master directory. This
-- states nothing of the table.
pub record IsEntered (k k' : CurrentMap) (ppn protection first : ℕ) (grown : List ℕ) (puts : List Put) : Type 0 where
  pub blocks : k'.master.blocks ≡ k.master.blocks ++ grown
  pub entries : k'.master.entries ≡ k.master.entries ++ entry_made ppn protection first ∷ []
  pub chain : IsChain nat_cmp (IsMasterEntryOf 2) k'.master
  pub directories : k'.directories ≡ k.directories ++ bare_known first ∷ []
  pub put : PutsChain master_words k.master k'.master [] puts
  pub few : length puts ≤ 2

-- A directory is made in memory, and these puts will make it on the disk after its block is zeroed.
pub record IsMade (size : ℕ) (k k' : CurrentMap) (ppn protection first : ℕ) (puts : List Put) : Type 0 where
  pub absent : find nat_cmp ppn k.master.entries ≡ None
  -- the blocks that the chain of the master directory takes
  pub grown : List ℕ
  pub count : length grown ≡ chain_growth k.master
  pub inside : AllByRecursion (InSpace size) (first ∷ grown)
  pub free : AllByRecursion (IsFree k.table) (first ∷ grown)
  pub chain_puts : List Put
  pub entered : IsEntered k k' ppn protection first grown chain_puts
  pub taken : TakesBlocks (with_booked k.table (length (first ∷ grown))) k'.table (first ∷ grown)
  pub put : PutsTable size k.table k'.table chain_puts puts
  -- what is booked then is within the free space
  pub room : k'.table.booked ≤ space size
