-- What a volume knows of its disk: the chains of its directories with their entries in the order of the disk, for each
-- file where its version lies, and the allocation table. A map of the disk states the same, and the words of the files
-- besides.
use Rattle.std.specs.Prelude.{◌≡◌, ℕ, ◌+◌, ◌*◌, ◌≤◌, false, List, [], ◌∷◌, ◌++◌, length, replicate, slice_get, Option}
use Rattle.std.specs.Prelude.{Some, None, cond}
use Rattle.std.specs.List.{AllByRecursion}
use Rattle.std.specs.Ordering.{nat_cmp, eq_by_cmp}
use Rattle.std.specs.FinMap.Entries.{find}
use Rattle.words36.specs.declared.names.FileName.{FileName}
use Rattle.blockdisk.specs.Common.{Contents}
use Rattle.spec_image.specs.Common.{get, map_values, from_entries, total, times, blocks_of, cost_of_blocks, name_cmp}
use Rattle.spec_image.specs.Common.{IsVolumeSize, table_blocks, table_bit, fixed, SpecMasterEntry, master_words}
use Rattle.spec_image.specs.Common.{SpecFileEntry, file_words, IsFileEntry, most_blocks, StoredFile, StoredDirectory}
use Rattle.spec_image.specs.Common.{DiskMap, entry_of, HasMap, InSpace, IsMasterEntryOf}
use Rattle.alloctab.specs.Common.{TableState, bit}
use Rattle.directory.specs.Common.{ChainState, IsChain, IsOn, StandsAt}
use Rattle.retrieval.specs.Common.{VersionState, rib_count}
use Rattle.retrieval.specs.declared.prime.Prime.{Prime}
use Rattle.volume.specs.Facts.{facts_of, known_facts}

-- a version in memory: what its prime block says, and where it lies
pub record CurrentVersion : Type 0 where
  pub prime : Prime
  pub version : VersionState

pub record CurrentDirectory : Type 0 where
  pub chain : ChainState SpecFileEntry
  -- the version of each entry, in their order
  pub versions : List CurrentVersion

pub record CurrentMap : Type 0 where
  pub master : ChainState SpecMasterEntry
  -- the directory of each entry, in their order
  pub directories : List CurrentDirectory
  pub table : TableState

-- Memory and map agree.

-- the file of an entry, with its version
abbrev pub AgreesOnFile : StoredDirectory → SpecFileEntry → CurrentVersion → Type 0
AgreesOnFile d e v = (f : StoredFile) × (get d.files e.0 ≡ Some f) × (facts_of f ≡ known_facts e.1 v.prime v.version)

-- The directory of the map is the one in memory.
pub record AgreesOnDirectory (k : CurrentDirectory) (d : StoredDirectory) : Type 0 where
  pub chain : d.chain ≡ k.chain.blocks
  pub names : map_values (λ f. f.prime) d.files ≡ from_entries k.chain.entries
  pub each : (i : ℕ) (e : SpecFileEntry) (v : CurrentVersion) → slice_get k.chain.entries i ≡ Some e
      → slice_get k.versions i ≡ Some v → AgreesOnFile d e v

-- The map is the one in memory.
pub record AgreesOnMap (k : CurrentMap) (m : DiskMap) : Type 0 where
  pub chain : m.chain ≡ k.master.blocks
  pub names : map_values entry_of m.directories ≡ from_entries k.master.entries
  pub each : (i : ℕ) (e : SpecMasterEntry) (d : CurrentDirectory) → slice_get k.master.entries i ≡ Some e
      → slice_get k.directories i ≡ Some d
      → (s : StoredDirectory) × (get m.directories e.0 ≡ Some s) × AgreesOnDirectory d s

-- The contents have this map, and their chains and their table are those in memory.
pub record MatchesMap (size : ℕ) (k : CurrentMap) (m : DiskMap) (contents : Contents) : Type 0 where
  pub known : AgreesOnMap k m
  pub stands : HasMap size contents m
  pub master : IsOn master_words contents k.master
  pub chains : (i : ℕ) (d : CurrentDirectory) → slice_get k.directories i ≡ Some d → IsOn file_words contents d.chain
  pub bits : (n : ℕ) → table_bit size contents n ≡ bit k.table n

-- What holds in memory, whatever the disk does.

-- the number of blocks is that of the length, and no more than a file may have; there are no more ribs than these
-- blocks need
pub record IsWholeVersion (v : CurrentVersion) : Type 0 where
  pub counted : length v.version.blocks ≡ blocks_of v.version.words
  pub few : v.version.words ≤ most_blocks * 128
  pub few_ribs : length v.version.ribs ≤ rib_count (length v.version.blocks)

pub record IsWholeDirectory (size : ℕ) (d : CurrentDirectory) : Type 0 where
  pub chain : IsChain name_cmp IsFileEntry d.chain
  pub inside : AllByRecursion (InSpace size) d.chain.blocks
  pub aligned : length d.versions ≡ length d.chain.entries
  pub versions : AllByRecursion IsWholeVersion d.versions

-- How often a block occurs in what memory knows.

-- the blocks of a version with this prime block
abbrev pub blocks_reached : ℕ → VersionState → List ℕ
blocks_reached prime v = prime ∷ (v.ribs ++ v.blocks)

-- in the versions of these entries
abbrev pub reaches_in_entries : ℕ → List SpecFileEntry → List CurrentVersion → ℕ
reaches_in_entries n [] versions = 0
reaches_in_entries n (e ∷ es) [] = 0
reaches_in_entries n (e ∷ es) (v ∷ vs) = times n (blocks_reached e.1 v.version) + reaches_in_entries n es vs

abbrev pub reaches_in_known : ℕ → CurrentDirectory → ℕ
reaches_in_known n d = times n d.chain.blocks + reaches_in_entries n d.chain.entries d.versions

abbrev pub known_reaches : ℕ → ChainState SpecMasterEntry → List CurrentDirectory → ℕ
known_reaches n master directories = times n master.blocks + total (reaches_in_known n) directories

-- What it costs: each version as much as its blocks require, and each chain as many blocks as it has.

abbrev pub cost_of_version : CurrentVersion → ℕ
cost_of_version v = cost_of_blocks (length v.version.blocks)

abbrev pub cost_of_directory : CurrentDirectory → ℕ
cost_of_directory d = length d.chain.blocks + total cost_of_version d.versions

abbrev pub cost_of_known : ChainState SpecMasterEntry → List CurrentDirectory → ℕ
cost_of_known master directories = length master.blocks + total cost_of_directory directories

pub record IsWholeMap (size : ℕ) (k : CurrentMap) : Type 0 where
  pub volume : IsVolumeSize size
  pub size_is : k.table.size ≡ size
  -- memory has room for the entries of every layout
  pub chain : IsChain nat_cmp (IsMasterEntryOf 2) k.master
  pub inside : AllByRecursion (InSpace size) k.master.blocks
  pub aligned : length k.directories ≡ length k.master.entries
  pub each : AllByRecursion (IsWholeDirectory size) k.directories
  -- each block is in one place or free: the table has the bits of the fixed regions and of what is reached
  pub bits : (n : ℕ) → bit k.table n ≡ fixed size n + known_reaches n k.master k.directories
  -- the table has nothing to put
  pub unchanged : k.table.changed ≡ replicate (table_blocks size) false

-- No block is held, and what the map costs is booked.
pub record IsBooked (size : ℕ) (k : CurrentMap) : Type 0 where
  pub unheld : k.table.held ≡ replicate size 0
  pub booked : k.table.booked ≡ cost_of_known k.master k.directories

-- Names.

-- the prime block of a name in the directory of a number, among the directories of these entries
abbrev pub prime_in : List SpecMasterEntry → List CurrentDirectory → ℕ → FileName → Option ℕ
prime_in [] ds ppn name = None
prime_in (e ∷ es) [] ppn name = None
prime_in (e ∷ es) (d ∷ ds) ppn name = cond (eq_by_cmp nat_cmp ppn e.0) (find name_cmp name d.chain.entries)
    (prime_in es ds ppn name)

-- the version that a name has in a directory, with its prime block
abbrev pub Before : Type 0
Before = Option (ℕ × CurrentVersion)

-- The name has this version in the directory, or there is no such name.
abbrev pub IsNamed : CurrentDirectory → FileName → Before → Type 0
IsNamed d name None = find name_cmp name d.chain.entries ≡ None
IsNamed d name (Some v) = (i : ℕ) × StandsAt name_cmp d.chain.entries name v.0 i × (slice_get d.versions i ≡ Some v.1)

-- how often a block occurs in it, and what it costs
abbrev pub given_up : ℕ → Before → ℕ
given_up n None = 0
given_up n (Some v) = times n (blocks_reached v.0 v.1.version)

abbrev pub cost_before : Before → ℕ
cost_before None = 0
cost_before (Some v) = cost_of_version v.1
