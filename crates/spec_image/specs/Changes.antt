-- What a change makes of a map: words for the laws about changes. They are for settled contents of a disk of `size`
-- blocks, `old` before the change and `new` after it.
use Rattle.std.specs.Prelude.{◌≡◌, ℕ, ◌+◌, ◌<◌, ◌≤◌, List, Option, None, Some, IsSome}
use Rattle.std.specs.Ordering.{nat_cmp}
use Rattle.words36.specs.declared.names.FileName.{FileName}
use Rattle.blockdisk.specs.Common.{Contents}
use Rattle.spec_image.specs.Maps.{FinMap, empty, insert, remove, map_values, times}
use Rattle.spec_image.specs.Files.{File, Directory, name_cmp}
use Rattle.spec_image.specs.Regions.{table_blocks, table_start, space_start}
use Rattle.spec_image.specs.Table.{table_bit}
use Rattle.spec_image.specs.Directories.{IsDirectory, master_words, IsMasterEntry, file_words, IsFileEntry}
use Rattle.spec_image.specs.Stands.{StoredFile, StoredDirectory, DiskMap, reaches_in_file, reaches, entry_of}
use Rattle.spec_image.specs.Quiet.{IsFreeBlock}

-- What holds for the new contents. A number for each block states which blocks are meant: it is 0 if the block isn't
-- one of them.

-- The table frees these blocks and takes those.
pub record TableFollows (size : ℕ) (old new : Contents) (given_up taken : ℕ → ℕ) : Type 0 where
  pub undamaged : (i : ℕ) → i < table_blocks size → IsSome (new (table_start size + i))
  pub inside : (n : ℕ) → size ≤ n → taken n ≡ 0
  pub bits : (n : ℕ) → table_bit size new n + given_up n ≡ table_bit size old n + taken n

-- The home copies stay.
pub record HomeStays (old new : Contents) : Type 0 where
  pub first : new 1 ≡ old 1
  pub second : new 2 ≡ old 2

-- The home copies stay, and all blocks of the map except these.
pub record ChangesOnly (old new : Contents) (m : DiskMap) (modified : ℕ → ℕ) : Type 0 where
  pub home : HomeStays old new
  pub others : (n : ℕ) → 0 < reaches n m → modified n ≡ 0 → new n ≡ old n

-- the blocks are the chain of a directory with these prime blocks under its names
abbrev pub IsFileChain : Contents → List ℕ → FinMap name_cmp ℕ → Type 0
IsFileChain contents blocks primes = IsDirectory name_cmp file_words IsFileEntry contents blocks primes

-- the blocks are the chain of a master directory with these entries
abbrev pub IsMasterChain : Contents → List ℕ → FinMap nat_cmp (ℕ × ℕ) → Type 0
IsMasterChain contents blocks entries = IsDirectory nat_cmp master_words IsMasterEntry contents blocks entries

abbrev pub primes_of : StoredDirectory → FinMap name_cmp ℕ
primes_of d = map_values (λ f. f.prime) d.files

abbrev pub entries_of : DiskMap → FinMap nat_cmp (ℕ × ℕ)
entries_of m = map_values entry_of m.directories

-- how often a block is in the file, if there is one
abbrev pub reaches_in_found : ℕ → Option StoredFile → ℕ
reaches_in_found n None = 0
reaches_in_found n (Some f) = reaches_in_file n f

-- The new map. If an entry changes, its chain may have become longer or shorter, so the chain is given too.

abbrev pub with_directory : DiskMap → List ℕ → ℕ → StoredDirectory → DiskMap
with_directory m chain ppn d = record { layout = m.layout; chain = chain; directories = insert m.directories ppn d }

abbrev pub without_directory : DiskMap → List ℕ → ℕ → DiskMap
without_directory m chain ppn = record { layout = m.layout; chain = chain; directories = remove m.directories ppn }

abbrev pub with_file : StoredDirectory → List ℕ → FileName → StoredFile → StoredDirectory
with_file d chain name f = record {
  protection = d.protection;
  quota = d.quota;
  chain = chain;
  files = insert d.files name f;
}

abbrev pub without_file : StoredDirectory → List ℕ → FileName → StoredDirectory
without_file d chain name = record {
  protection = d.protection;
  quota = d.quota;
  chain = chain;
  files = remove d.files name;
}

-- a directory with no files
abbrev pub bare_directory : ℕ → ℕ → List ℕ → StoredDirectory
bare_directory protection quota chain = record { protection = protection; quota = quota; chain = chain; files = empty }

abbrev pub with_protection : StoredDirectory → ℕ → ℕ → StoredDirectory
with_protection d protection quota = record { protection = protection; quota = quota; chain = d.chain; files = d.files }

-- the same directories in another layout
abbrev pub in_layout : DiskMap → ℕ → DiskMap
in_layout m layout = record { layout = layout; chain = m.chain; directories = m.directories }

-- another file in the same blocks
abbrev pub in_place_of : StoredFile → File → StoredFile
in_place_of f file = record { file = file; prime = f.prime; extensions = f.extensions; blocks = f.blocks }

-- The same changes, of directories as users see them.

abbrev pub file_put : {V : Type 0} → Directory V → FileName → V → Directory V
file_put d name v = record { protection = d.protection; quota = d.quota; files = insert d.files name v }

abbrev pub file_removed : {V : Type 0} → Directory V → FileName → Directory V
file_removed d name = record { protection = d.protection; quota = d.quota; files = remove d.files name }

-- The two steps from the contents before a call to those after it.

-- These blocks, each of which is free, are written, and no other block changes.
pub record WritesFree (size : ℕ) (old new : Contents) (blocks : List ℕ) : Type 0 where
  pub free : (n : ℕ) → 0 < times n blocks → IsFreeBlock size old n
  pub inside : (n : ℕ) → size ≤ n → times n blocks ≡ 0
  pub others : (n : ℕ) → times n blocks ≡ 0 → new n ≡ old n

-- A change set puts these blocks and blocks of the table. Of the blocks below the table, only the home copies must
-- stay.
pub record PutsOnly (size : ℕ) (old new : Contents) (blocks : List ℕ) : Type 0 where
  pub home : HomeStays old new
  pub undamaged : (i : ℕ) → i < table_blocks size → IsSome (new (table_start size + i))
  pub others : (n : ℕ) → space_start size ≤ n → times n blocks ≡ 0 → new n ≡ old n
