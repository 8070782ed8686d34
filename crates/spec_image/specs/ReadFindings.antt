-- What a reader has found after it has read everything: chains walked to their ends, and an entry for each name with
-- what it leads to. Statements that this makes a map of the disk.
use Rattle.std.specs.Prelude.{◌≡◌, ℕ, ◌+◌, ◌<◌, ◌≤◌, List, map, IsSome}
use Rattle.std.specs.List.{AllByRecursion}
use Rattle.std.specs.declared.cmp.Ordering.{Ordering}
use Rattle.std.specs.Ordering.{nat_cmp}
use Rattle.words36.specs.declared.names.FileName.{FileName}
use Rattle.blockdisk.specs.Common.{Contents}
use Rattle.spec_image.specs.Maps.{EachOnce, from_entries, times, total}
use Rattle.spec_image.specs.Files.{name_cmp}
use Rattle.spec_image.specs.Regions.{IsVolumeSize, table_blocks, table_start}
use Rattle.spec_image.specs.Home.{IsHome}
use Rattle.spec_image.specs.Table.{table_bit, fixed}
use Rattle.spec_image.specs.Directories.{Node, numbers, first_of, items, IsSpelled, IsFilled, SpecMasterEntry}
use Rattle.spec_image.specs.Directories.{master_words, IsMasterEntry, SpecFileEntry, file_words, IsFileEntry}
use Rattle.spec_image.specs.Stands.{StoredFile, StoredDirectory, DiskMap, reaches_in_file, reaches_in_directory}
use Rattle.spec_image.specs.Stands.{quota_limit, place_of, entry_of, IsVersion, IsWhole, reaches, IsMapped, HasMap}

-- A chain was walked to its end, and is valid.
pub record IsChainRead {K V : Type 0} (R : K → K → Ordering) (words : K × V → List ℕ) (IsEntry : K × V
    → Type 0) (contents : Contents) (nodes : List (Node (K × V))) : Type 0 where
  pub spelled : IsSpelled words contents nodes
  pub filled : IsFilled nodes
  pub are_entries : AllByRecursion IsEntry (items nodes)
  pub each_once : EachOnce R (items nodes)

-- the directory that was found: its chain, and a version for each entry in its order
abbrev pub found_directory : ℕ → ℕ → List (Node SpecFileEntry) → List (FileName × StoredFile) → StoredDirectory
found_directory protection quota nodes files = record {
  protection = protection;
  quota = quota;
  chain = numbers nodes;
  files = from_entries files;
}

abbrev pub FoundDirectoryIsWhole : Type 0
FoundDirectoryIsWhole =
    (layout : ℕ) (contents : Contents) (ppn protection quota : ℕ) (nodes : List (Node SpecFileEntry))
    (files : List (FileName × StoredFile)) → protection < 512 → quota < quota_limit layout
    → IsChainRead name_cmp file_words IsFileEntry contents nodes → map (λ e. (e.0, e.1.prime)) files ≡ items nodes
    → AllByRecursion (λ e. IsVersion layout contents (place_of ppn e.0) e.1) files
    → IsWhole layout contents ppn (found_directory protection quota nodes files)

-- how often it reaches a block is what a count over what was found gives
abbrev pub FoundDirectoryReaches : Type 0
FoundDirectoryReaches =
    (n protection quota : ℕ) (nodes : List (Node SpecFileEntry)) (files : List (FileName × StoredFile))
    → EachOnce name_cmp files
    → reaches_in_directory n (found_directory protection quota nodes files)
    ≡ times n (numbers nodes) + total (λ e. reaches_in_file n e.1) files

-- the map that was found
abbrev pub found_map : ℕ → List (Node SpecMasterEntry) → List (ℕ × StoredDirectory) → DiskMap
found_map layout nodes directories = record {
  layout = layout;
  chain = numbers nodes;
  directories = from_entries directories;
}

-- the map that was found is spelled in the contents
abbrev pub FoundMapIsMapped : Type 0
FoundMapIsMapped =
    (size layout : ℕ) (contents : Contents) (nodes : List (Node SpecMasterEntry))
    (directories : List (ℕ × StoredDirectory))
    → IsHome size contents (record { layout = layout; master = first_of nodes })
    → IsChainRead nat_cmp master_words IsMasterEntry contents nodes
    → map (λ e. (e.0, entry_of e.1)) directories ≡ items nodes
    → AllByRecursion (λ e. IsWhole layout contents e.0 e.1) directories
    → IsMapped size contents (found_map layout nodes directories)

-- and how often it reaches a block is what a count over what was found gives
abbrev pub FoundMapReaches : Type 0
FoundMapReaches =
    (n layout : ℕ) (nodes : List (Node SpecMasterEntry)) (directories : List (ℕ × StoredDirectory))
    → EachOnce nat_cmp directories
    → reaches n (found_map layout nodes directories)
    ≡ times n (numbers nodes) + total (λ e. reaches_in_directory n e.1) directories

-- if the table agrees with the count over what was found, the contents have the map
abbrev pub FoundMapStands : Type 0
FoundMapStands =
    (size layout : ℕ) (contents : Contents) (nodes : List (Node SpecMasterEntry))
    (directories : List (ℕ × StoredDirectory))
    → IsVolumeSize size
    → IsHome size contents (record { layout = layout; master = first_of nodes })
    → IsChainRead nat_cmp master_words IsMasterEntry contents nodes
    → map (λ e. (e.0, entry_of e.1)) directories ≡ items nodes
    → AllByRecursion (λ e. IsWhole layout contents e.0 e.1) directories
    → ((i : ℕ) → i < table_blocks size → IsSome (contents (table_start size + i)))
    → ((n : ℕ) → size ≤ n → times n (numbers nodes) + total (λ e. reaches_in_directory n e.1) directories ≡ 0)
    → ((n : ℕ) → table_bit size contents n
    ≡ fixed size n + (times n (numbers nodes) + total (λ e. reaches_in_directory n e.1) directories))
    → HasMap size contents (found_map layout nodes directories)
