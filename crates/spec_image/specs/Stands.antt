-- What the contents of a disk stand for: the files that a map of the disk has, if that map is spelled in the settled
-- contents, every block of it is in one place and in the free space, and the allocation table agrees.
use Rattle.std.specs.Prelude.{◌≡◌, ℕ, ◌+◌, ◌<◌, ◌≤◌, ◌==◌, if◌then◌else◌, List, ◌∷◌, ◌++◌, Some, IsSome}
use Rattle.std.specs.Ordering.{nat_cmp}
use Rattle.words36.specs.declared.names.FileName.{FileName}
use Rattle.blockdisk.specs.Common.{Contents}
use Rattle.spec_image.specs.Maps.{FinMap, get, map_values, sum_over, times}
use Rattle.spec_image.specs.Blocks.{head_or_zero}
use Rattle.spec_image.specs.Files.{File, Files, Directory, Place, name_cmp}
use Rattle.spec_image.specs.Regions.{IsVolumeSize, table_blocks, table_start}
use Rattle.spec_image.specs.Home.{SpecHome, IsHome}
use Rattle.spec_image.specs.Log.{IsSettled}
use Rattle.spec_image.specs.Table.{table_bit, fixed}
use Rattle.spec_image.specs.Directories.{IsDirectory, master_words, IsMasterEntry, master_word, file_words}
use Rattle.spec_image.specs.Directories.{IsFileEntry}
use Rattle.spec_image.specs.Retrieval.{prime_of, IsRetrieved, HasBody}

-- The map of a disk.

-- a file, and where its version is
pub record StoredFile : Type 0 where
  pub file : File
  -- the prime retrieval block
  pub prime : ℕ
  -- the other retrieval blocks
  pub extensions : List ℕ
  -- the data blocks
  pub blocks : List ℕ

pub record StoredDirectory : Type 0 where
  pub protection : ℕ
  pub quota : ℕ
  -- the blocks of its chain
  pub chain : List ℕ
  pub files : FinMap name_cmp StoredFile

pub record DiskMap : Type 0 where
  pub layout : ℕ
  -- the blocks of the master directory
  pub chain : List ℕ
  pub directories : FinMap nat_cmp StoredDirectory

-- The files of it.

abbrev pub directory_of : StoredDirectory → Directory File
directory_of d = record { protection = d.protection; quota = d.quota; files = map_values (λ f. f.file) d.files }

abbrev pub files_of : DiskMap → Files File
files_of m = map_values directory_of m.directories

-- How often a block is in it.

abbrev pub blocks_of_file : StoredFile → List ℕ
blocks_of_file f = f.prime ∷ (f.extensions ++ f.blocks)

abbrev pub reaches_in_file : ℕ → StoredFile → ℕ
reaches_in_file n f = times n (blocks_of_file f)

abbrev pub reaches_in_directory : ℕ → StoredDirectory → ℕ
reaches_in_directory n d = times n d.chain + sum_over (reaches_in_file n) d.files

abbrev pub reaches : ℕ → DiskMap → ℕ
reaches n m = times n m.chain + sum_over (reaches_in_directory n) m.directories

-- How it is spelled.

pub record IsVersion (layout : ℕ) (contents : Contents) (place : Place) (f : StoredFile) : Type 0 where
  pub retrieved : IsRetrieved layout contents (prime_of place f.file) f.prime f.extensions f.blocks
  pub body : HasBody contents f.blocks f.file.body

-- layout 1 has no quotas
abbrev pub quota_limit : ℕ → ℕ
quota_limit layout = if layout == 1 then 1 else 262144

abbrev pub place_of : ℕ → FileName → Place
place_of ppn name = record { ppn = ppn; name = name }

-- a directory's chain, with the prime block of each of its names
abbrev pub IsFileDirectory : Contents → StoredDirectory → Type 0
IsFileDirectory contents d = IsDirectory name_cmp file_words IsFileEntry contents d.chain
    (map_values (λ f. f.prime) d.files)

-- A directory with all its files.
pub record IsWhole (layout : ℕ) (contents : Contents) (ppn : ℕ) (d : StoredDirectory) : Type 0 where
  pub protection : d.protection < 512
  pub quota : d.quota < quota_limit layout
  pub chain : IsFileDirectory contents d
  pub files : (name : FileName) (f : StoredFile) → get d.files name ≡ Some f
      → IsVersion layout contents (place_of ppn name) f

-- what the master directory says about a directory: its word, and its first block
abbrev pub entry_of : StoredDirectory → ℕ × ℕ
entry_of d = (master_word d.protection d.quota, head_or_zero d.chain)

abbrev pub IsMasterDirectory : Contents → DiskMap → Type 0
IsMasterDirectory contents m = IsDirectory nat_cmp master_words IsMasterEntry contents m.chain
    (map_values entry_of m.directories)

abbrev pub home_of : DiskMap → SpecHome
home_of m = record { layout = m.layout; master = head_or_zero m.chain }

-- The directories and files are on the disk as the map says.
pub record IsMapped (size : ℕ) (contents : Contents) (m : DiskMap) : Type 0 where
  pub home : IsHome size contents (home_of m)
  pub master : IsMasterDirectory contents m
  pub directories : (ppn : ℕ) (d : StoredDirectory) → get m.directories ppn ≡ Some d → IsWhole m.layout contents ppn d

-- Each block is in one place or free. Since a bit is 0 or 1, the equation says that no block is reached
-- twice, that none of the fixed regions is reached, and that the table is exact.
pub record IsMarked (size : ℕ) (contents : Contents) (m : DiskMap) : Type 0 where
  pub undamaged : (i : ℕ) → i < table_blocks size → IsSome (contents (table_start size + i))
  pub inside : (n : ℕ) → size ≤ n → reaches n m ≡ 0
  pub bits : (n : ℕ) → table_bit size contents n ≡ fixed size n + reaches n m

-- The settled contents of a disk of this size have this map.
pub record HasMap (size : ℕ) (settled : Contents) (m : DiskMap) : Type 0 where
  pub volume : IsVolumeSize size
  pub mapped : IsMapped size settled m
  pub marked : IsMarked size settled m

abbrev pub SettledStands : ℕ → Contents → Files File → Type 0
SettledStands size settled files = (m : DiskMap) × HasMap size settled m × (files_of m ≡ files)

-- The contents of a disk, whatever its gate, stand for these files.
abbrev pub Stands : ℕ → Contents → Files File → Type 0
Stands size contents files = (settled : Contents) × IsSettled size contents settled × SettledStands size settled files
