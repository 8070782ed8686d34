-- The blocks of the chains of directories, as far as these can be walked.
use Rattle.std.specs.Prelude.{◌≡◌, ◌↔◌, ◌⊎◌, ℕ, ◌≤◌, Bool, true, List, [], Contains, Some, length}
use Rattle.std.specs.List.{AllByRecursion}
use Rattle.blockdisk.specs.Common.{Contents}
use Rattle.spec_image.specs.Common.{InSpace, SpecMasterEntry, IsFileEntry, IsMasterEntryOf, IsHome, IsDirectoryNamed}
use Rattle.spec_image.specs.Common.{file_words, master_words}
use Rattle.spec_image.specs.Directories.{directory_block}
use Rattle.alloctab.specs.Common.{flag_at}
use Rattle.directory.specs.Common.{IsTwiceInChain}
use Rattle.volume.specs.Common.{home_in}

-- Block n is a directory block, which names this one next.
pub record IsLink {K V : Type 0} (words : K × V → List ℕ) (IsEntry : K × V → Type 0) (contents : Contents)
    (n next : ℕ) : Type 0 where
  pub entries : List (K × V)
  pub words_are : contents n ≡ Some (directory_block words next entries)
  pub few : length entries ≤ 42
  pub are_entries : AllByRecursion IsEntry entries

-- From block `first` a walk comes to this block: each one before it is a directory block, and names the next one, which
-- lies in the free space.
pub data IsWalked {K V : Type 0} (words : K × V → List ℕ) (IsEntry : K × V → Type 0) (size : ℕ) (contents : Contents)
    (first : ℕ) : ℕ → Type 0 where
  at_first : IsWalked words IsEntry size contents first first
  onward : (m n : ℕ) → IsWalked words IsEntry size contents first m → IsLink words IsEntry contents m n
      → InSpace size n → IsWalked words IsEntry size contents first n

-- From block `first` a walk comes to block n, which was marked before, or to which the same walk came before.
pub record IsMetAgain {K V : Type 0} (words : K × V → List ℕ) (IsEntry : K × V → Type 0) (size : ℕ)
    (contents : Contents) (marks : List Bool) (first n : ℕ) : Type 0 where
  pub inside : InSpace size n
  pub walked : IsWalked words IsEntry size contents first n
  pub again : (flag_at marks n ≡ true) ⊎ IsTwiceInChain words contents [] first n

-- No block to which a walk from block `first` comes is marked.
abbrev pub IsUnmet : {K V : Type 0} → (K × V → List ℕ) → (K × V → Type 0) → ℕ → Contents → List Bool → ℕ → Type 0
IsUnmet words IsEntry size contents marks first = (n : ℕ) → IsWalked words IsEntry size contents first n
    → flag_at marks n ≡ true → ⊥

abbrev pub IsMasterWalked : ℕ → Contents → ℕ → ℕ → Type 0
IsMasterWalked size contents first n = IsWalked master_words (IsMasterEntryOf 2) size contents first n

abbrev pub IsFileWalked : ℕ → Contents → ℕ → ℕ → Type 0
IsFileWalked size contents first n = IsWalked file_words IsFileEntry size contents first n

-- Block n is in the chain of this directory, which begins in block `first`, and in that of another directory.
pub record IsChainShared (size layout : ℕ) (contents : Contents) (ppn first n : ℕ) : Type 0 where
  pub walked : IsFileWalked size contents first n
  pub other : ℕ
  pub differs : other ≡ ppn → ⊥
  pub word : ℕ
  pub start : ℕ
  pub named : IsDirectoryNamed size contents layout other word start
  pub reached : IsFileWalked size contents start n

-- Block n is in the chain of the master directory, or in that of a directory that it names.
pub data IsChainBlock (size layout : ℕ) (contents : Contents) (n : ℕ) : Type 0 where
  of_master : (first : ℕ) → IsHome size contents (home_in layout first) → IsMasterWalked size contents first n
      → IsChainBlock size layout contents n
  of_directory : (ppn word first : ℕ) → IsDirectoryNamed size contents layout ppn word first
      → IsFileWalked size contents first n → IsChainBlock size layout contents n

-- Of these blocks each has its next one among them too.
abbrev pub IsClosed : {K V : Type 0} → (K × V → List ℕ) → (K × V → Type 0) → ℕ → Contents → List Bool → Type 0
IsClosed words IsEntry size contents marks = (m n : ℕ) → flag_at marks m ≡ true → IsLink words IsEntry contents m n
    → InSpace size n → flag_at marks n ≡ true

-- The marked blocks are those of the chains of the directories of these entries.
abbrev pub AreWalked : ℕ → Contents → List SpecMasterEntry → List Bool → Type 0
AreWalked size contents entries marks = (n : ℕ) → (flag_at marks n ≡ true)
    ↔ ((e : SpecMasterEntry) × Contains entries e × IsFileWalked size contents e.1.1 n)

-- The chain that begins in block `first` has no block of the chains of these directories.
abbrev pub AreApartFrom : ℕ → Contents → List SpecMasterEntry → ℕ → Type 0
AreApartFrom size contents entries first = (e : SpecMasterEntry) (n : ℕ) → Contains entries e
    → IsFileWalked size contents e.1.1 n → IsFileWalked size contents first n → ⊥

-- And with each of them its next one is marked.
pub record AreMarkedTo (size : ℕ) (contents : Contents) (entries : List SpecMasterEntry) (marks : List Bool)
    : Type 0 where
  pub walked : AreWalked size contents entries marks
  pub closed : IsClosed file_words IsFileEntry size contents marks

-- The blocks of chains are those that are marked for the master directory or for the others.
abbrev pub AreChains : ℕ → ℕ → Contents → List Bool → List Bool → Type 0
AreChains size layout contents master directories = (n : ℕ) → IsChainBlock size layout contents n
    ↔ ((flag_at master n ≡ true) ⊎ (flag_at directories n ≡ true))
