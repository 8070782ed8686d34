-- What a start may refuse: each fault as the fact that a disk has it, at the block that it names. If a disk has several
-- faults, each of these facts is true. All except the log's are faults of the settled contents.
use Rattle.std.specs.Prelude.{◌≡◌, ℕ, zero, suc, ◌+◌, ◌/◌, ◌<◌, ◌≤◌, ◌⊎◌, List, [], ◌∷◌, ◌++◌, length, flat_map, Some}
use Rattle.std.specs.Prelude.{None}
use Rattle.std.specs.List.{AllByRecursion}
use Rattle.std.specs.declared.cmp.Ordering.{Ordering}
use Rattle.std.specs.Ordering.{nat_cmp}
use Rattle.std.specs.FinMap.Entries.{find}
use Rattle.words36.specs.Common.{IsPpn}
use Rattle.words36.specs.declared.names.FileName.{FileName}
use Rattle.spec_image.specs.declared.put.Put.{Put}
use Rattle.blockdisk.specs.Common.{Contents}
use Rattle.spec_image.specs.Maps.{EachOnce, times, total}
use Rattle.spec_image.specs.Costs.{blocks_of}
use Rattle.spec_image.specs.Files.{Place, name_cmp}
use Rattle.spec_image.specs.Regions.{IsVolumeSize, table_blocks, table_start, space_start}
use Rattle.spec_image.specs.Home.{filser_word, SpecHome, IsHomeCopy}
use Rattle.spec_image.specs.Log.{IsGateOpen, IsLog, IsSettled}
use Rattle.spec_image.specs.Table.{table_bit, fixed}
use Rattle.spec_image.specs.Directories.{Node, numbers, items, directory_block, SpecMasterEntry, master_words}
use Rattle.spec_image.specs.Directories.{master_word, SpecFileEntry, file_words, IsFileEntry}
use Rattle.spec_image.specs.Retrieval.{SpecPrime, SpecRun, run_blocks, IsRun, Extension, all_runs, extension_block}
use Rattle.spec_image.specs.Retrieval.{prime_block, IsPrime, IsRetrieved}
use Rattle.spec_image.specs.Stands.{DiskMap, reaches, place_of, quota_limit, IsMapped}
use Rattle.spec_image.specs.Walks.{LeadsAlong, LeadsOn, IsMasterWalk, IsDirectoryWalk, IsFileNamed, IsPrimeRead}

-- the free space, in which everything lies except the fixed regions
pub record InSpace (size n : ℕ) : Type 0 where
  pub from : space_start size ≤ n
  pub below : n < size

-- Home blocks.

-- the block begins with FILSER
abbrev pub HasName : Contents → ℕ → Type 0
HasName contents n = (words : List ℕ) × (contents n ≡ Some (filser_word ∷ words))

-- The size is no volume's, or neither copy has the name.
abbrev pub IsNotVolume : ℕ → Contents → Type 0
IsNotVolume size settled = (IsVolumeSize size → ⊥) ⊎ ((HasName settled 1 → ⊥) × (HasName settled 2 → ⊥))

-- A copy has the name, and none is valid.
pub record IsBadHome (size : ℕ) (settled : Contents) : Type 0 where
  pub volume : IsVolumeSize size
  pub named : HasName settled 1 ⊎ HasName settled 2
  pub first : (home : SpecHome) → IsHomeCopy size settled 1 home → ⊥
  pub second : (home : SpecHome) → IsHomeCopy size settled 2 home → ⊥

-- The log, whose contents don't settle.

pub record IsBadLog (size : ℕ) (contents : Contents) : Type 0 where
  pub open_gate : IsGateOpen size contents
  pub no_log : (puts : List Put) → IsLog size contents puts → ⊥

-- Directory blocks.

-- Block n of a chain, after these blocks, isn't valid.
pub data IsBadBlock {K V : Type 0} (R : K → K → Ordering) (words : K × V → List ℕ) (IsEntry : K × V
    → Type 0) (target : K × V → ℕ) (size : ℕ) (contents : Contents) (before : List (Node (K × V)))
    (n : ℕ) : Type 0 where
  -- it is damaged, or its words are no directory block's
  malformed : ((next : ℕ) (entries : List (K × V)) → contents n ≡ Some (directory_block words next entries)
      → length entries ≤ 42 → AllByRecursion IsEntry entries → ⊥)
      → IsBadBlock R words IsEntry target size contents before n
  -- it names a next block outside the free space
  next_outside : (next : ℕ) (entries : List (K × V)) → contents n ≡ Some (directory_block words next entries)
      → 0 < next → (InSpace size next → ⊥)
      → IsBadBlock R words IsEntry target size contents before n
  -- an entry names a block outside the free space
  entry_outside : (next : ℕ) (entries : List (K × V)) → contents n ≡ Some (directory_block words next entries)
      → (AllByRecursion (λ e. InSpace size (target e)) entries → ⊥)
      → IsBadBlock R words IsEntry target size contents before n
  -- it isn't full, and has a successor
  short : (next : ℕ) (entries : List (K × V)) → contents n ≡ Some (directory_block words next entries)
      → 0 < next → (length entries ≡ 42 → ⊥)
      → IsBadBlock R words IsEntry target size contents before n
  -- it is empty, and isn't the first
  empty_later : (next : ℕ) → contents n ≡ Some (directory_block words next []) → 0 < length before
      → IsBadBlock R words IsEntry target size contents before n
  -- it has a key for the second time, and is the first block that does
  key_again : (next : ℕ) (entries : List (K × V)) → contents n ≡ Some (directory_block words next entries)
      → EachOnce R (items before) → (EachOnce R (items before ++ entries) → ⊥)
      → IsBadBlock R words IsEntry target size contents before n

-- a valid entry of the master directory: besides the PPN it has a protection, and a quota if the layout has quotas
pub record IsMasterEntryOf (layout : ℕ) (e : SpecMasterEntry) : Type 0 where
  pub ppn : IsPpn e.0
  pub protection : ℕ
  pub quota : ℕ
  pub protection_fits : protection < 512
  pub quota_fits : quota < quota_limit layout
  pub word : e.1.0 ≡ master_word protection quota

pub record IsBadMasterBlock (size : ℕ) (settled : Contents) (n : ℕ) : Type 0 where
  pub layout : ℕ
  pub before : List (Node SpecMasterEntry)
  pub walk : IsMasterWalk size settled layout before n
  pub inside : InSpace size n
  pub bad : IsBadBlock nat_cmp master_words (IsMasterEntryOf layout) (λ e. e.1.1) size settled before n

pub record IsBadFileBlock (size : ℕ) (settled : Contents) (n : ℕ) : Type 0 where
  pub layout : ℕ
  pub ppn : ℕ
  pub before : List (Node SpecFileEntry)
  pub walk : IsDirectoryWalk size settled layout ppn before n
  pub inside : InSpace size n
  pub bad : IsBadBlock name_cmp file_words IsFileEntry (λ e. e.1) size settled before n

abbrev pub IsBadDirectory : ℕ → Contents → ℕ → Type 0
IsBadDirectory size settled n = IsBadMasterBlock size settled n ⊎ IsBadFileBlock size settled n

-- Retrieval blocks.

-- each block of the runs is in the free space
abbrev pub RunsInSpace : ℕ → List SpecRun → Type 0
RunsInSpace size runs = AllByRecursion (InSpace size) (flat_map run_blocks runs)

-- Block n, the prime block of a version or one of its extensions, isn't valid.
pub data IsBadVersion (size : ℕ) (contents : Contents) (layout prime : ℕ) : ℕ → Type 0 where
  -- the prime block is damaged, or its words are not those of a prime block
  malformed_prime : ((p : SpecPrime) (runs : List SpecRun) (next : ℕ) → IsPrimeRead contents layout prime p runs next
      → length runs ≤ 112 → ⊥)
      → IsBadVersion size contents layout prime prime
  -- a run of it leaves the free space
  prime_run_outside : (p : SpecPrime) (runs : List SpecRun) (next : ℕ) → IsPrimeRead contents layout prime p runs next
      → (RunsInSpace size runs → ⊥)
      → IsBadVersion size contents layout prime prime
  -- it names an extension outside the free space
  prime_next_outside : (p : SpecPrime) (runs : List SpecRun) (next : ℕ) → IsPrimeRead contents layout prime p runs next
      → 0 < next → (InSpace size next → ⊥)
      → IsBadVersion size contents layout prime prime
  -- it names an extension though its pointers aren't all used
  prime_short : (p : SpecPrime) (runs : List SpecRun) (next : ℕ) → IsPrimeRead contents layout prime p runs next
      → 0 < next → (length runs ≡ 112 → ⊥)
      → IsBadVersion size contents layout prime prime
  -- the counts don't add up to the blocks of its length
  miscounted : (p : SpecPrime) (runs : List SpecRun) (next : ℕ) (extensions : List Extension)
      → IsPrimeRead contents layout prime p runs next
      → LeadsOn contents next extensions 0
      → (length (flat_map run_blocks (runs ++ all_runs extensions)) ≡ blocks_of p.words → ⊥)
      → IsBadVersion size contents layout prime prime
  -- or are too many already, as in a loop of extensions
  too_many : (p : SpecPrime) (runs : List SpecRun) (next last : ℕ) (extensions : List Extension)
      → IsPrimeRead contents layout prime p runs next
      → LeadsOn contents next extensions last
      → blocks_of p.words < length (flat_map run_blocks (runs ++ all_runs extensions))
      → IsBadVersion size contents layout prime prime
  -- an extension is damaged, or its words are no extension's
  malformed_extension : (p : SpecPrime) (runs : List SpecRun) (next : ℕ) (extensions : List Extension) (n : ℕ)
      → IsPrimeRead contents layout prime p runs next
      → LeadsOn contents next extensions n → InSpace size n
      → ((others : List SpecRun) (after : ℕ) → contents n ≡ Some (extension_block others after) → 0 < length others
      → length others ≤ 126 → AllByRecursion IsRun others → ⊥)
      → IsBadVersion size contents layout prime n
  -- the same faults of an extension that was walked last
  extension_run_outside : (p : SpecPrime) (runs : List SpecRun) (next : ℕ) (extensions : List Extension) (n : ℕ)
      (others : List SpecRun) (after : ℕ)
      → IsPrimeRead contents layout prime p runs next → LeadsOn contents next (extensions ++ (n, others) ∷ []) after
      → (RunsInSpace size others → ⊥)
      → IsBadVersion size contents layout prime n
  extension_next_outside : (p : SpecPrime) (runs : List SpecRun) (next : ℕ) (extensions : List Extension) (n : ℕ)
      (others : List SpecRun) (after : ℕ)
      → IsPrimeRead contents layout prime p runs next → LeadsOn contents next (extensions ++ (n, others) ∷ []) after
      → 0 < after → (InSpace size after → ⊥)
      → IsBadVersion size contents layout prime n
  extension_short : (p : SpecPrime) (runs : List SpecRun) (next : ℕ) (extensions : List Extension) (n : ℕ)
      (others : List SpecRun)
      (after : ℕ)
      → IsPrimeRead contents layout prime p runs next → LeadsOn contents next (extensions ++ (n, others) ∷ []) after
      → 0 < after → (length others ≡ 126 → ⊥)
      → IsBadVersion size contents layout prime n

-- Block n, the prime block of a file or one of its extensions, isn't valid.
pub data IsBadRetrieval (size : ℕ) (contents : Contents) (n : ℕ) : Type 0 where
  of_version : (layout : ℕ) (place : Place) (prime : ℕ) → IsFileNamed size contents layout place prime
      → IsBadVersion size contents layout prime n
      → IsBadRetrieval size contents n
  -- it isn't a valid prime block of the place that names it
  of_another_place : (layout : ℕ) (place : Place) → IsFileNamed size contents layout place n
      → ((p : SpecPrime) (runs : List SpecRun) (next : ℕ) → contents n ≡ Some (prime_block p runs next)
      → p.place ≡ place
      → IsPrime layout p → length runs ≤ 112 → AllByRecursion IsRun runs → ⊥)
      → IsBadRetrieval size contents n

-- Data blocks.

pub record IsBadData (size : ℕ) (settled : Contents) (n : ℕ) : Type 0 where
  pub layout : ℕ
  pub place : Place
  pub p : SpecPrime
  pub prime : ℕ
  pub extensions : List ℕ
  pub blocks : List ℕ
  pub named : IsFileNamed size settled layout place prime
  pub place_is : p.place ≡ place
  pub retrieved : IsRetrieved layout settled p prime extensions blocks
  pub inside : 0 < times n blocks
  pub damaged : settled n ≡ None

-- A block reached twice: what was read so far, and how often the block is in it.

-- where a version is whose retrieval blocks were read, but not its data blocks
pub record ReadFile : Type 0 where
  pub p : SpecPrime
  pub prime : ℕ
  pub extensions : List ℕ
  pub blocks : List ℕ

pub record ReadDirectory : Type 0 where
  pub nodes : List (Node SpecFileEntry)
  pub last : ℕ
  pub files : List (FileName × ReadFile)

pub record ReadMap : Type 0 where
  pub nodes : List (Node SpecMasterEntry)
  pub last : ℕ
  pub directories : List (ℕ × ReadDirectory)

-- the blocks of a walk, with the one that it names last, if it names one
abbrev pub walked : {E : Type 0} → List (Node E) → ℕ → List ℕ
walked nodes zero = numbers nodes
walked nodes (suc last) = numbers nodes ++ suc last ∷ []

abbrev pub times_in_file : ℕ → ReadFile → ℕ
times_in_file n f = times n (f.prime ∷ (f.extensions ++ f.blocks))

abbrev pub times_in_directory : ℕ → ReadDirectory → ℕ
times_in_directory n d = times n (walked d.nodes d.last) + total (λ e. times_in_file n e.1) d.files

abbrev pub times_in_map : ℕ → ReadMap → ℕ
times_in_map n m = times n (walked m.nodes m.last) + total (λ e. times_in_directory n e.1) m.directories

-- an entry of what was read of a directory names the file
pub record IsFileRead (layout : ℕ) (contents : Contents) (ppn : ℕ) (entries : List SpecFileEntry) (e : FileName
    × ReadFile) : Type 0 where
  pub entry : find name_cmp e.0 entries ≡ Some e.1.prime
  pub place_is : e.1.p.place ≡ place_of ppn e.0
  pub retrieved : IsRetrieved layout contents e.1.p e.1.prime e.1.extensions e.1.blocks

pub record IsDirectoryRead (layout : ℕ) (contents : Contents) (entries : List SpecMasterEntry) (e : ℕ
    × ReadDirectory) : Type 0 where
  pub word : ℕ
  pub first : ℕ
  pub entry : find nat_cmp e.0 entries ≡ Some (word, first)
  pub walk : LeadsAlong file_words contents first e.1.nodes e.1.last
  pub once : EachOnce name_cmp e.1.files
  pub files : AllByRecursion (IsFileRead layout contents e.0 (items e.1.nodes)) e.1.files

pub record IsMapRead (size : ℕ) (contents : Contents) (m : ReadMap) : Type 0 where
  pub layout : ℕ
  pub walk : IsMasterWalk size contents layout m.nodes m.last
  pub once : EachOnce nat_cmp m.directories
  pub directories : AllByRecursion (IsDirectoryRead layout contents (items m.nodes)) m.directories

pub record IsTwice (size : ℕ) (settled : Contents) (n : ℕ) : Type 0 where
  pub m : ReadMap
  pub read : IsMapRead size settled m
  pub twice : 2 ≤ times_in_map n m

-- The allocation table, when all else is good.

-- A block of the table is damaged, or has a bit that doesn't agree with the map.
pub record IsWrongTable (size : ℕ) (settled : Contents) (n : ℕ) : Type 0 where
  pub m : DiskMap
  pub volume : IsVolumeSize size
  pub mapped : IsMapped size settled m
  pub once : (k : ℕ) → reaches k m ≤ 1
  pub inside : (k : ℕ) → 0 < reaches k m → InSpace size k
  pub i : ℕ
  pub in_table : i < table_blocks size
  pub block : n ≡ table_start size + i
  pub wrong : (settled n ≡ None)
      ⊎ ((k : ℕ) × (k / 4608 ≡ i) × (table_bit size settled k ≡ fixed size k + reaches k m → ⊥))

-- All of them.

pub data StartFault : Type 0 where
  NotVolume : StartFault
  BadHome : StartFault
  BadLog : StartFault
  BadDirectory : ℕ → StartFault
  BadRetrieval : ℕ → StartFault
  BlockTwice : ℕ → StartFault
  TableWrong : ℕ → StartFault
  BadData : ℕ → StartFault

-- Settled contents have the fault. A block that it names is in the free space, or is one of the table: a number outside
-- is never read, and the block that names such a number is the one that isn't valid.
abbrev pub IsSettledFault : ℕ → Contents → StartFault → Type 0
IsSettledFault size settled NotVolume = IsNotVolume size settled
IsSettledFault size settled BadHome = IsBadHome size settled
IsSettledFault size settled BadLog = ⊥
IsSettledFault size settled (BadDirectory n) = InSpace size n × IsBadDirectory size settled n
IsSettledFault size settled (BadRetrieval n) = InSpace size n × IsBadRetrieval size settled n
IsSettledFault size settled (BlockTwice n) = InSpace size n × IsTwice size settled n
IsSettledFault size settled (TableWrong n) = IsWrongTable size settled n
IsSettledFault size settled (BadData n) = InSpace size n × IsBadData size settled n

-- The contents of a disk have the fault, whatever its gate.
abbrev pub HasFault : ℕ → Contents → StartFault → Type 0
HasFault size contents fault =
    (IsBadLog size contents × (fault ≡ BadLog))
    ⊎ ((settled : Contents) × IsSettled size contents settled × IsSettledFault size settled fault)
