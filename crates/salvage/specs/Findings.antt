-- What is found wrong with a disk, and which file it costs.
use Rattle.std.specs.Prelude.{◌≡◌, ℕ, ◌<◌, ◌≤◌, ◌⊎◌, ◌∷◌, ◌++◌, [], List, None, length}
use Rattle.std.specs.List.{AllByRecursion}
use Rattle.blockdisk.specs.Common.{Contents}
use Rattle.spec_image.specs.Common.{file_words, master_words, InSpace, IsBadHome, IsBadMasterBlock, IsBadVersion}
use Rattle.spec_image.specs.Common.{IsNotVolume, Place, IsHome, times, SpecPrime, IsRetrieved, place_of}
use Rattle.spec_image.specs.Common.{IsDirectoryNamed}
use Rattle.spec_image.specs.Common.{IsFileNamed}
use Rattle.directory.specs.Common.{IsTwiceInChain}
use Rattle.volume.specs.Common.{IsBadFileChain, IsDamagedData, IsOtherPlace, home_in, SettledRefuses}
use Rattle.volume.specs.declared.error.VolumeError.{VolumeError}
use Rattle.volume.specs.declared.error.VolumeError.TheVariants.{NotVolume, BadHome, BadDirectory, BadRetrieval}
use Rattle.volume.specs.declared.error.VolumeError.TheVariants.{BlockTwice, TableWrong, BadData, Device, NoMemory}
use Rattle.salvage.specs.Chains.{IsChainBlock, IsChainShared}
use Rattle.salvage.specs.Extensions.{HasOwners, IsExtension}
use Rattle.salvage.specs.FreeBlocks.{IsFreeBlock, IsUntold}
use Rattle.salvage.specs.Saved.{AreApart, IsNamedRead, IsPrimeAt, IsRead, blocks_of, claims}
use Rattle.salvage.specs.declared.saved.SavedFile.{SavedFile}
use Rattle.salvage.specs.declared.finding.Cost.{Cost}
use Rattle.salvage.specs.declared.finding.Defect.{Defect}
use Rattle.salvage.specs.declared.finding.Defect.TheVariants.{Start, FreeBlock, TwoOwners, Crowded}
use Rattle.salvage.specs.declared.finding.Finding.{Finding}
use Rattle.salvage.specs.declared.finding.Cost.TheVariants as cost

-- Files that directories name.

-- A file of this place is at a prime block, and block n is one of its blocks.
pub record HasBlock (layout : ℕ) (contents : Contents) (place : Place) (prime n : ℕ) : Type 0 where
  pub p : SpecPrime
  pub extensions : List ℕ
  pub blocks : List ℕ
  pub place_is : p.place ≡ place
  pub retrieved : IsRetrieved layout contents p prime extensions blocks
  pub among : 0 < times n (prime ∷ (extensions ++ blocks))

-- Block n occurs twice in files that directories name.
pub record IsNamedTwice (size layout : ℕ) (contents : Contents) (n : ℕ) : Type 0 where
  pub files : List SavedFile
  pub named : AllByRecursion (IsNamedRead size layout contents) files
  pub apart : AreApart files
  pub twice : 2 ≤ claims files n

-- Block n occurs at least five times in files of this kind, which are at different prime blocks.
pub record IsCrowded (IsOne : SavedFile → Type 0) (n : ℕ) : Type 0 where
  pub files : List SavedFile
  pub each : AllByRecursion IsOne files
  pub apart : AreApart files
  pub many : 5 ≤ claims files n

-- The fault is there, and it concerns the file of a place whose directory names this prime block.
abbrev pub Concerns : ℕ → ℕ → Contents → Place → ℕ → Defect → Type 0
Concerns size layout contents place prime (Start (BadRetrieval n)) = InSpace size n
    × (IsBadVersion size contents layout prime n ⊎ ((n ≡ prime) × IsOtherPlace layout contents place prime))
Concerns size layout contents place prime (Start (BadData n)) = InSpace size n
    × IsDamagedData layout contents place prime n
Concerns size layout contents place prime (Start (BlockTwice n)) = HasBlock layout contents place prime n
    × (IsNamedTwice size layout contents n ⊎ IsChainBlock size layout contents n)
Concerns size layout contents place prime (FreeBlock n) = HasBlock layout contents place prime n
    × IsFreeBlock size contents n
Concerns size layout contents place prime (Crowded n) = HasBlock layout contents place prime n
    × IsCrowded (IsNamedRead size layout contents) n
Concerns size layout contents place prime fault = ⊥

-- A directory names this file, and it has the fault.
pub record IsFaultOf (size layout : ℕ) (contents : Contents) (place : Place) (fault : Defect) : Type 0 where
  pub prime : ℕ
  pub named : IsFileNamed size contents layout place prime
  pub concerns : Concerns size layout contents place prime fault

-- Files that no directory names.

-- The file at this prime block has the damaged block n.
pub record IsDamagedAt (size layout : ℕ) (contents : Contents) (prime n : ℕ) : Type 0 where
  pub file : SavedFile
  pub at_is : file.at ≡ prime
  pub read : IsRead size layout contents file
  pub among : 0 < times n file.stored.version.blocks
  pub damaged : contents n ≡ None

-- It comes before this file, or with it: a directory names it, or it has at most as many data blocks.
abbrev pub IsEarlier : ℕ → ℕ → Contents → SavedFile → SavedFile → Type 0
IsEarlier size layout contents file other = IsNamedRead size layout contents other
    ⊎ (IsRead size layout contents other
    × (length other.stored.version.blocks ≤ length file.stored.version.blocks))

-- The file at this prime block has block n, which earlier files and it have five times.
pub record IsCrowdedAt (size layout : ℕ) (contents : Contents) (prime n : ℕ) : Type 0 where
  pub file : SavedFile
  pub at_is : file.at ≡ prime
  pub read : IsRead size layout contents file
  pub among : 0 < times n (blocks_of file)
  pub crowded : IsCrowded (IsEarlier size layout contents file) n

-- The fault is there, and it concerns the file at this prime block.
abbrev pub ConcernsUnnamed : ℕ → ℕ → Contents → ℕ → Defect → Type 0
ConcernsUnnamed size layout contents prime (Start (BadRetrieval n)) = IsBadVersion size contents layout prime n
ConcernsUnnamed size layout contents prime (Start (BadData n)) = IsDamagedAt size layout contents prime n
ConcernsUnnamed size layout contents prime (TwoOwners n) = IsExtension size layout contents prime n
    × HasOwners size layout contents prime n
ConcernsUnnamed size layout contents prime (Crowded n) = IsCrowdedAt size layout contents prime n
ConcernsUnnamed size layout contents prime fault = ⊥

-- A prime block says that its file is of this place, and that file has the fault.
pub record IsFaultOfUnnamed (size layout : ℕ) (contents : Contents) (place : Place) (prime : ℕ) (fault : Defect)
    : Type 0 where
  pub inside : InSpace size prime
  pub says : IsPrimeAt layout contents prime place
  pub concerns : ConcernsUnnamed size layout contents prime fault

-- Directories.

-- The chain of a directory that begins in this block can't be read, or is in part that of another directory.
abbrev pub IsFaultOfChain : ℕ → ℕ → Contents → ℕ → ℕ → VolumeError → Type 0
IsFaultOfChain size layout contents ppn first (BadDirectory n) = IsBadFileChain size contents first n
IsFaultOfChain size layout contents ppn first (BlockTwice n) = InSpace size n
    × (IsTwiceInChain file_words contents [] first n ⊎ IsChainShared size layout contents ppn first n)
IsFaultOfChain size layout contents ppn first fault = ⊥

-- The master directory names this directory, and its chain has this fault.
pub record IsFaultOfDirectory (size layout : ℕ) (contents : Contents) (ppn : ℕ) (fault : VolumeError) : Type 0 where
  pub word : ℕ
  pub first : ℕ
  pub named : IsDirectoryNamed size contents layout ppn word first
  pub concerns : IsFaultOfChain size layout contents ppn first fault

-- The master directory reaches a block that it reached before.
pub record IsMasterTwice (size layout : ℕ) (contents : Contents) (n : ℕ) : Type 0 where
  pub first : ℕ
  pub home : IsHome size contents (home_in layout first)
  pub inside : InSpace size n
  pub twice : IsTwiceInChain master_words contents [] first n

-- Neither home copy is valid, or the master directory can't be read.
abbrev pub IsFaultOfMaster : ℕ → ℕ → Contents → VolumeError → Type 0
IsFaultOfMaster size layout contents NotVolume = IsNotVolume size contents
IsFaultOfMaster size layout contents BadHome = IsBadHome size contents
IsFaultOfMaster size layout contents (BadDirectory n) = InSpace size n × IsBadMasterBlock size contents n
IsFaultOfMaster size layout contents (BlockTwice n) = IsMasterTwice size layout contents n
IsFaultOfMaster size layout contents fault = ⊥

-- All of them.

-- A block of the table can't be believed.
abbrev pub IsFaultOfTable : ℕ → Contents → VolumeError → Type 0
IsFaultOfTable size contents (TableWrong n) = IsUntold size contents n
IsFaultOfTable size contents fault = ⊥

-- A start refuses the contents for this fault, whatever their gate.
abbrev pub IsFaultOfStart : ℕ → Contents → VolumeError → Type 0
IsFaultOfStart size contents fault = (fault ≡ Device → ⊥) × (fault ≡ NoMemory → ⊥) × SettledRefuses size contents fault

-- It is a fault as a start would name it, and has this.
abbrev pub IsStartFault : (VolumeError → Type 0) → Defect → Type 0
IsStartFault P (Start fault) = P fault
IsStartFault P fault = ⊥

-- The fault is in these contents, and costs this.
abbrev pub IsFaultAt : ℕ → ℕ → Contents → Defect → Cost → Type 0
IsFaultAt size layout contents fault (cost.File ppn name) = IsFaultOf size layout contents (place_of ppn name) fault
IsFaultAt size layout contents fault (cost.Unnamed ppn name prime) =
    IsFaultOfUnnamed size layout contents (place_of ppn name) prime fault
IsFaultAt size layout contents fault (cost.Directory ppn) =
    IsStartFault (IsFaultOfDirectory size layout contents ppn) fault
IsFaultAt size layout contents fault cost.Directories = IsStartFault (IsFaultOfMaster size layout contents) fault
IsFaultAt size layout contents fault cost.Nothing =
    IsStartFault (λ e. IsFaultOfTable size contents e ⊎ IsFaultOfStart size contents e) fault

abbrev pub IsFinding : ℕ → ℕ → Contents → Finding → Type 0
IsFinding size layout contents finding = IsFaultAt size layout contents finding.fault finding.costs
