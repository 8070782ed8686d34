-- What a reader has found, part by part: the words of the files besides what is in memory.
use Rattle.std.specs.Prelude.{◌≡◌, ◌⊎◌, ℕ, ◌+◌, ◌/◌, ◌<◌, Bool, None, List, [], ◌∷◌, ◌++◌, map}
use Rattle.std.specs.List.{AllByRecursion, AllZip}
use Rattle.words36.specs.declared.names.FileName.{FileName}
use Rattle.blockdisk.specs.Common.{Contents}
use Rattle.spec_image.specs.Common.{EachOnce, times, total, name_cmp, items, SpecMasterEntry, master_words}
use Rattle.spec_image.specs.Common.{SpecFileEntry}
use Rattle.spec_image.specs.Common.{file_words, StoredFile, StoredDirectory, place_of, entry_of, reaches_in_file}
use Rattle.spec_image.specs.Common.{reaches_in_directory, IsVersion, IsWhole, LeadsAlong, InSpace, IsMasterEntryOf}
use Rattle.spec_image.specs.Common.{ReadDirectory, times_in_directory, IsFileRead, IsVolumeSize, table_blocks}
use Rattle.spec_image.specs.Common.{table_start, head_or_zero, IsHome, table_bit}
use Rattle.std.specs.Ordering.{nat_cmp}
use Rattle.alloctab.specs.Common.{digit_at, TableState, bit, wanted_bit, IsTableOf}
use Rattle.directory.specs.Common.{ChainState, IsChain, IsOn}
use Rattle.volume.specs.Facts.{facts_of, known_facts}
use Rattle.volume.specs.Homes.{home_in}
use Rattle.volume.specs.FileRead.{IsFileFound}
use Rattle.volume.specs.CurrentMap.{CurrentVersion, CurrentDirectory, AgreesOnDirectory}

-- what was reached lies in the free space
abbrev pub IsOnlySpace : ℕ → List Bool → Type 0
IsOnlySpace size reached = (n : ℕ) → 0 < digit_at reached n → InSpace size n

-- the version in memory is that of the file
abbrev pub IsKnownVersion : FileName × StoredFile → CurrentVersion → Type 0
IsKnownVersion e v = facts_of e.1 ≡ known_facts e.1.prime v.prime v.version

-- What was pushed has P, seen by this view.
pub record IsAdded {A B : Type 0} (view : A → B) (old new : List A) (P : B → Type 0) : Type 0 where
  pub added : A
  pub pushed : new ≡ old ++ added ∷ []
  pub is : P (view added)

-- The version of an entry was read, and its blocks were marked.
pub record IsMarkedFile (layout : ℕ) (contents : Contents) (ppn : ℕ) (entry : SpecFileEntry) (marks marks' : ℕ
    → ℕ) (v : CurrentVersion) : Type 0 where
  pub found : IsFileFound layout contents (place_of ppn entry.0) entry.1 v.prime v.version
  pub marked : (n : ℕ) → marks' n ≡ marks n + times n (entry.1 ∷ (v.version.ribs ++ v.version.blocks))

-- The versions of these entries of a directory, in this layout. `marks` tells how often each block was reached before
-- and after they were read.
pub record AreFilesRead (layout : ℕ) (contents : Contents) (ppn : ℕ) (entries : List SpecFileEntry)
    (versions : List CurrentVersion) (marks marks' : ℕ → ℕ) : Type 0 where
  pub found : List (FileName × StoredFile)
  pub named : map (λ e. (e.0, e.1.prime)) found ≡ entries
  pub whole : AllByRecursion (λ e. IsVersion layout contents (place_of ppn e.0) e.1) found
  pub known : AllZip IsKnownVersion found versions
  pub marked : (n : ℕ) → marks' n ≡ marks n + total (λ e. reaches_in_file n e.1) found

-- The chain and the files of a directory that this entry names, as they were read.
pub record IsEntryRead (layout : ℕ) (contents : Contents) (entry : SpecMasterEntry) (directory : ReadDirectory) : Type
    0 where
  pub walk : LeadsAlong file_words contents entry.1.1 directory.nodes directory.last
  pub once : EachOnce name_cmp directory.files
  pub files : AllByRecursion (IsFileRead layout contents entry.0 (items directory.nodes)) directory.files

-- One directory, which this entry of the master directory names.
pub record IsDirectoryFound (layout : ℕ) (contents : Contents) (entry : SpecMasterEntry) (directory : CurrentDirectory)
    (marks marks' : ℕ → ℕ) : Type 0 where
  pub found : StoredDirectory
  pub named : entry_of found ≡ entry.1
  pub whole : IsWhole layout contents entry.0 found
  pub known : AgreesOnDirectory directory found
  pub on : IsOn file_words contents directory.chain
  pub read : ReadDirectory
  pub read_is : IsEntryRead layout contents entry read
  pub marked : (n : ℕ) → marks' n ≡ marks n + reaches_in_directory n found
  pub counted : (n : ℕ) → times_in_directory n read ≡ reaches_in_directory n found

-- The directories of these entries.
pub record AreDirectoriesRead (layout : ℕ) (contents : Contents) (entries : List SpecMasterEntry)
    (directories : List CurrentDirectory) (marks marks' : ℕ → ℕ) : Type 0 where
  pub found : List (ℕ × StoredDirectory)
  pub named : map (λ e. (e.0, entry_of e.1)) found ≡ entries
  pub whole : AllByRecursion (λ e. IsWhole layout contents e.0 e.1) found
  pub known : AllZip (λ e d. AgreesOnDirectory d e.1) found directories
  pub on : AllByRecursion (λ d. IsOn file_words contents d.chain) directories
  pub read : List (SpecMasterEntry × ReadDirectory)
  pub read_named : map (λ r. r.0) read ≡ entries
  pub read_are : AllByRecursion (λ r. IsEntryRead layout contents r.0 r.1) read
  pub counted : (n : ℕ) → total (λ r. times_in_directory n r.1) read ≡ total (λ e. reaches_in_directory n e.1) found
  pub marked : (n : ℕ) → marks' n ≡ marks n + total (λ e. reaches_in_directory n e.1) found

-- What was read: the master directory, and the directories that it names.
pub record IsMapFound (size : ℕ) (contents : Contents) (layout first : ℕ) (master : ChainState SpecMasterEntry)
    (directories : List CurrentDirectory) (marks : ℕ → ℕ) : Type 0 where
  pub volume : IsVolumeSize size
  pub home : IsHome size contents (home_in layout first)
  pub chain : IsChain nat_cmp (IsMasterEntryOf layout) master
  pub on : IsOn master_words contents master
  pub begins : head_or_zero master.blocks ≡ first
  pub read : AreDirectoriesRead layout contents master.entries directories (λ n. times n master.blocks) marks

-- Block n of the table is damaged, or has a bit that doesn't match the reached blocks.
pub record IsWrongFor (size : ℕ) (contents : Contents) (reached : List Bool) (n : ℕ) : Type 0 where
  pub i : ℕ
  pub in_table : i < table_blocks size
  pub block : n ≡ table_start size + i
  pub wrong : (contents n ≡ None)
      ⊎ ((k : ℕ) × (k / 4608 ≡ i) × (table_bit size contents k ≡ wanted_bit size reached k → ⊥))

-- The table is that of the contents, and matches the reached blocks.
pub record IsRightFor (size : ℕ) (contents : Contents) (reached : List Bool) (table : TableState) : Type 0 where
  pub read : IsTableOf size contents (bit table)
  pub right : (n : ℕ) → bit table n ≡ wanted_bit size reached n
