-- What a reader that stops has met: the fault that its refusal names, in the part of the disk that it had to read, in
-- the layout of the disk. `marks` tells how often each block was reached before that part.
use Rattle.std.specs.Prelude.{◌≡◌, ℕ, ◌+◌, ◌≤◌, ◌⊎◌, Bool, List, Some}
use Rattle.std.specs.List.{AllByRecursion}
use Rattle.std.specs.Ordering.{nat_cmp}
use Rattle.std.specs.FinMap.Entries.{find}
use Rattle.words36.specs.declared.names.FileName.{FileName}
use Rattle.blockdisk.specs.Common.{Contents}
use Rattle.spec_image.specs.Common.{EachOnce, total, Place, name_cmp, Node, items, SpecMasterEntry, SpecFileEntry}
use Rattle.spec_image.specs.Common.{file_words}
use Rattle.spec_image.specs.Common.{IsFileEntry, place_of, LeadsAlong, InSpace, IsBadVersion, ReadFile, ReadDirectory}
use Rattle.spec_image.specs.Common.{times_in_file, times_in_directory, IsFileRead, IsDirectoryRead, IsSettledFault}
use Rattle.spec_image.specs.Common.{HasFault}
use Rattle.alloctab.specs.Common.{InTable}
use Rattle.directory.specs.Common.{IsBadChain}
use Rattle.directory.specs.declared.error.DirectoryError.{DirectoryError}
use Rattle.volume.specs.FileRead.{IsOtherPlace, IsReachedTwice, IsDamagedData}
use Rattle.volume.specs.declared.error.VolumeError.{VolumeError}
use Rattle.volume.specs.declared.error.VolumeError.TheVariants.{NotVolume, BadHome, BadLog, BadDirectory}
use Rattle.volume.specs.declared.error.VolumeError.TheVariants.{BadRetrieval, BlockTwice, TableWrong, Device}
use Rattle.volume.specs.declared.error.VolumeError.TheVariants.{NoMemory, Failed, BadData}
use Rattle.spec_image.specs.Faults as faults
use Rattle.directory.specs.declared.error.DirectoryError.TheVariants as directory

-- A block that a refusal names lies in the free space; that of TableWrong is one of the table. This holds on every
-- disk, since numbers are checked before a block is read.
abbrev pub NamesInSpace : ℕ → VolumeError → Type 0
NamesInSpace size (BadDirectory n) = InSpace size n
NamesInSpace size (BadRetrieval n) = InSpace size n
NamesInSpace size (BlockTwice n) = InSpace size n
NamesInSpace size (BadData n) = InSpace size n
NamesInSpace size (TableWrong n) = InTable size n
NamesInSpace size error = Unit {0}

-- the refusal for a chain that can't be read
abbrev pub error_of_chain : DirectoryError → VolumeError
error_of_chain (directory.BadDirectory n) = BadDirectory n
error_of_chain (directory.BlockTwice n) = BlockTwice n
error_of_chain directory.Device = Device
error_of_chain directory.NoMemory = NoMemory

-- One file, given by its place and its prime block.

abbrev pub IsFaultOfFile : ℕ → ℕ → Contents → List Bool → Place → ℕ → VolumeError → Type 0
IsFaultOfFile size layout contents reached place prime NotVolume = ⊥
IsFaultOfFile size layout contents reached place prime BadHome = ⊥
IsFaultOfFile size layout contents reached place prime BadLog = ⊥
IsFaultOfFile size layout contents reached place prime (BadDirectory n) = ⊥
IsFaultOfFile size layout contents reached place prime (BadRetrieval n) = IsBadVersion size contents layout prime n
    ⊎ ((n ≡ prime) × IsOtherPlace layout contents place prime)
IsFaultOfFile size layout contents reached place prime (BlockTwice n) =
    IsReachedTwice layout contents place prime reached n
IsFaultOfFile size layout contents reached place prime (TableWrong n) = ⊥
IsFaultOfFile size layout contents reached place prime Device = Unit {0}
IsFaultOfFile size layout contents reached place prime NoMemory = Unit {0}
IsFaultOfFile size layout contents reached place prime Failed = ⊥
IsFaultOfFile size layout contents reached place prime (BadData n) = IsDamagedData layout contents place prime n

-- The files of one directory, given by its PPN and its entries.

-- Block n, of a version that an entry names, is invalid.
pub record IsBadFileOf (size layout : ℕ) (contents : Contents) (ppn : ℕ) (entries : List SpecFileEntry) (n : ℕ) : Type 0
  where
    pub name : FileName
    pub prime : ℕ
    pub entry : find name_cmp name entries ≡ Some prime
    pub bad : IsBadVersion size contents layout prime n
        ⊎ ((n ≡ prime) × IsOtherPlace layout contents (place_of ppn name) prime)

-- Block n is a damaged data block.
pub record IsBadDataOf (layout : ℕ) (contents : Contents) (ppn : ℕ) (entries : List SpecFileEntry) (n : ℕ) : Type
    0 where
  pub name : FileName
  pub prime : ℕ
  pub entry : find name_cmp name entries ≡ Some prime
  pub bad : IsDamagedData layout contents (place_of ppn name) prime n

-- Block n was reached twice.
pub record IsTwiceInFiles (layout : ℕ) (contents : Contents) (marks : ℕ → ℕ) (ppn : ℕ) (entries : List SpecFileEntry)
    (n : ℕ) : Type 0 where
  pub files : List (FileName × ReadFile)
  pub once : EachOnce name_cmp files
  pub read : AllByRecursion (IsFileRead layout contents ppn entries) files
  pub twice : 2 ≤ marks n + total (λ e. times_in_file n e.1) files

abbrev pub IsFaultOfFiles : ℕ → ℕ → Contents → (ℕ → ℕ) → ℕ → List SpecFileEntry → VolumeError → Type 0
IsFaultOfFiles size layout contents marks ppn entries NotVolume = ⊥
IsFaultOfFiles size layout contents marks ppn entries BadHome = ⊥
IsFaultOfFiles size layout contents marks ppn entries BadLog = ⊥
IsFaultOfFiles size layout contents marks ppn entries (BadDirectory n) = ⊥
IsFaultOfFiles size layout contents marks ppn entries (BadRetrieval n) = IsBadFileOf size layout contents ppn entries n
IsFaultOfFiles size layout contents marks ppn entries (BlockTwice n) =
    IsTwiceInFiles layout contents marks ppn entries n
IsFaultOfFiles size layout contents marks ppn entries (TableWrong n) = ⊥
IsFaultOfFiles size layout contents marks ppn entries Device = Unit {0}
IsFaultOfFiles size layout contents marks ppn entries NoMemory = Unit {0}
IsFaultOfFiles size layout contents marks ppn entries Failed = ⊥
IsFaultOfFiles size layout contents marks ppn entries (BadData n) = IsBadDataOf layout contents ppn entries n

-- One directory, given by its PPN and its first block.

-- Block n of its chain is invalid.
abbrev pub IsBadFileChain : ℕ → Contents → ℕ → ℕ → Type 0
IsBadFileChain size contents first n = IsBadChain name_cmp file_words IsFileEntry (λ e. e.1) size contents first n

-- Its chain was walked so far, and a file of it has this fault.
pub record IsInChain (contents : Contents) (first : ℕ) (Fault : List SpecFileEntry → Type 0) : Type 0 where
  pub nodes : List (Node SpecFileEntry)
  pub last : ℕ
  pub walk : LeadsAlong file_words contents first nodes last
  pub fault : Fault (items nodes)

pub record IsTwiceInDirectory (layout : ℕ) (contents : Contents) (marks : ℕ → ℕ) (ppn first n : ℕ) : Type 0 where
  pub directory : ReadDirectory
  pub walk : LeadsAlong file_words contents first directory.nodes directory.last
  pub once : EachOnce name_cmp directory.files
  pub read : AllByRecursion (IsFileRead layout contents ppn (items directory.nodes)) directory.files
  pub twice : 2 ≤ marks n + times_in_directory n directory

abbrev pub IsFaultOfDirectory : ℕ → ℕ → Contents → (ℕ → ℕ) → ℕ → ℕ → VolumeError → Type 0
IsFaultOfDirectory size layout contents marks ppn first NotVolume = ⊥
IsFaultOfDirectory size layout contents marks ppn first BadHome = ⊥
IsFaultOfDirectory size layout contents marks ppn first BadLog = ⊥
IsFaultOfDirectory size layout contents marks ppn first (BadDirectory n) = IsBadFileChain size contents first n
IsFaultOfDirectory size layout contents marks ppn first (BadRetrieval n) = IsInChain contents first
    (λ entries. IsBadFileOf size layout contents ppn entries n)
IsFaultOfDirectory size layout contents marks ppn first (BlockTwice n) =
    IsTwiceInDirectory layout contents marks ppn first n
IsFaultOfDirectory size layout contents marks ppn first (TableWrong n) = ⊥
IsFaultOfDirectory size layout contents marks ppn first Device = Unit {0}
IsFaultOfDirectory size layout contents marks ppn first NoMemory = Unit {0}
IsFaultOfDirectory size layout contents marks ppn first Failed = ⊥
IsFaultOfDirectory size layout contents marks ppn first (BadData n) = IsInChain contents first
    (λ entries. IsBadDataOf layout contents ppn entries n)

-- The directories that the master directory names, given by its entries.

-- One of them has this fault.
pub record IsInEntry (entries : List SpecMasterEntry) (Fault : ℕ → ℕ → Type 0) : Type 0 where
  pub ppn : ℕ
  pub word : ℕ
  pub first : ℕ
  pub entry : find nat_cmp ppn entries ≡ Some (word, first)
  pub fault : Fault ppn first

pub record IsTwiceInDirectories (layout : ℕ) (contents : Contents) (marks : ℕ → ℕ) (entries : List SpecMasterEntry)
    (n : ℕ) : Type 0 where
  pub directories : List (ℕ × ReadDirectory)
  pub once : EachOnce nat_cmp directories
  pub read : AllByRecursion (IsDirectoryRead layout contents entries) directories
  pub twice : 2 ≤ marks n + total (λ e. times_in_directory n e.1) directories

abbrev pub IsFaultOfDirectories : ℕ → ℕ → Contents → (ℕ → ℕ) → List SpecMasterEntry → VolumeError → Type 0
IsFaultOfDirectories size layout contents marks entries NotVolume = ⊥
IsFaultOfDirectories size layout contents marks entries BadHome = ⊥
IsFaultOfDirectories size layout contents marks entries BadLog = ⊥
IsFaultOfDirectories size layout contents marks entries (BadDirectory n) = IsInEntry entries
    (λ ppn first. IsBadFileChain size contents first n)
IsFaultOfDirectories size layout contents marks entries (BadRetrieval n) = IsInEntry entries
    (λ ppn first. IsInChain contents first (λ files. IsBadFileOf size layout contents ppn files n))
IsFaultOfDirectories size layout contents marks entries (BlockTwice n) =
    IsTwiceInDirectories layout contents marks entries n
IsFaultOfDirectories size layout contents marks entries (TableWrong n) = ⊥
IsFaultOfDirectories size layout contents marks entries Device = Unit {0}
IsFaultOfDirectories size layout contents marks entries NoMemory = Unit {0}
IsFaultOfDirectories size layout contents marks entries Failed = ⊥
IsFaultOfDirectories size layout contents marks entries (BadData n) = IsInEntry entries
    (λ ppn first. IsInChain contents first (λ files. IsBadDataOf layout contents ppn files n))

-- what a reader of the table refuses
abbrev pub IsTableRefusal : VolumeError → Type 0
IsTableRefusal (TableWrong n) = Unit {0}
IsTableRefusal Device = Unit {0}
IsTableRefusal NoMemory = Unit {0}
IsTableRefusal error = ⊥

-- The whole disk. A failure of the device and a lack of memory are no faults of contents.

-- settled contents have the fault
abbrev pub SettledRefuses : ℕ → Contents → VolumeError → Type 0
SettledRefuses size settled NotVolume = IsSettledFault size settled faults.StartFault.NotVolume
SettledRefuses size settled BadHome = IsSettledFault size settled faults.StartFault.BadHome
SettledRefuses size settled BadLog = IsSettledFault size settled faults.StartFault.BadLog
SettledRefuses size settled (BadDirectory n) = IsSettledFault size settled (faults.StartFault.BadDirectory n)
SettledRefuses size settled (BadRetrieval n) = IsSettledFault size settled (faults.StartFault.BadRetrieval n)
SettledRefuses size settled (BlockTwice n) = IsSettledFault size settled (faults.StartFault.BlockTwice n)
SettledRefuses size settled (TableWrong n) = IsSettledFault size settled (faults.StartFault.TableWrong n)
SettledRefuses size settled Device = Unit {0}
SettledRefuses size settled NoMemory = Unit {0}
SettledRefuses size settled Failed = ⊥
SettledRefuses size settled (BadData n) = IsSettledFault size settled (faults.StartFault.BadData n)

-- the contents of a disk have the fault, whatever their gate
abbrev pub Refuses : ℕ → Contents → VolumeError → Type 0
Refuses size contents NotVolume = HasFault size contents faults.StartFault.NotVolume
Refuses size contents BadHome = HasFault size contents faults.StartFault.BadHome
Refuses size contents BadLog = HasFault size contents faults.StartFault.BadLog
Refuses size contents (BadDirectory n) = HasFault size contents (faults.StartFault.BadDirectory n)
Refuses size contents (BadRetrieval n) = HasFault size contents (faults.StartFault.BadRetrieval n)
Refuses size contents (BlockTwice n) = HasFault size contents (faults.StartFault.BlockTwice n)
Refuses size contents (TableWrong n) = HasFault size contents (faults.StartFault.TableWrong n)
Refuses size contents Device = Unit {0}
Refuses size contents NoMemory = Unit {0}
Refuses size contents Failed = ⊥
Refuses size contents (BadData n) = HasFault size contents (faults.StartFault.BadData n)
