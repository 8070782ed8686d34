-- How far a reader has come: walks through the chain of a directory and through the extensions of a
-- version, and what the walked part names. A next block of 0 is the end: nothing is read there.
use Rattle.std.specs.Prelude.{◌≡◌, ℕ, ◌^◌, ◌<◌, List, [], ◌∷◌, Some}
use Rattle.std.specs.List.{AllByRecursion}
use Rattle.std.specs.Ordering.{nat_cmp}
use Rattle.std.specs.FinMap.Entries.{find}
use Rattle.words36.specs.Common.{IsPpn}
use Rattle.blockdisk.specs.Common.{Contents}
use Rattle.spec_image.specs.Files.{Place, name_cmp}
use Rattle.spec_image.specs.Regions.{IsVolumeSize}
use Rattle.spec_image.specs.Home.{IsHome}
use Rattle.spec_image.specs.Directories.{Node, items, directory_block, SpecMasterEntry, master_words, SpecFileEntry}
use Rattle.spec_image.specs.Directories.{file_words}
use Rattle.spec_image.specs.Retrieval.{SpecPrime, SpecRun, IsRun, Extension, prime_block, extension_block, IsPrime}

-- From the block `first`, these blocks of a chain follow one another, each naming the next, and the last of them names
-- `last`.
abbrev pub LeadsAlong : {E : Type 0} → (E → List ℕ) → Contents → ℕ → List (Node E) → ℕ → Type 0
LeadsAlong words contents first [] last = first ≡ last
LeadsAlong words contents first (node ∷ nodes) last =
    (node.0 ≡ first) × (0 < first) × (next : ℕ) × (contents first ≡ Some (directory_block words next node.1))
    × LeadsAlong words contents next nodes last

-- The same for extensions.
abbrev pub LeadsOn : Contents → ℕ → List Extension → ℕ → Type 0
LeadsOn contents first [] last = first ≡ last
LeadsOn contents first (extension ∷ extensions) last =
    (extension.0 ≡ first) × (0 < first) × AllByRecursion IsRun extension.1
    × (next : ℕ) × (contents first ≡ Some (extension_block extension.1 next)) × LeadsOn contents next extensions last

-- On a disk of a size that a volume may have, these blocks of the master directory were walked, and `last` comes next.
pub record IsMasterWalk (size : ℕ) (contents : Contents) (layout : ℕ) (nodes : List (Node SpecMasterEntry))
    (last : ℕ) : Type 0 where
  pub volume : IsVolumeSize size
  pub master : ℕ
  pub home : IsHome size contents (record { layout = layout; master = master })
  pub walk : LeadsAlong master_words contents master nodes last

-- The master directory, as far as it was walked, has this directory, with its word and its first block.
pub record IsDirectoryNamed (size : ℕ) (contents : Contents) (layout ppn word first : ℕ) : Type 0 where
  pub nodes : List (Node SpecMasterEntry)
  pub last : ℕ
  pub walk : IsMasterWalk size contents layout nodes last
  pub entry : find nat_cmp ppn (items nodes) ≡ Some (word, first)

-- These blocks of the directory were walked, and `last` comes next.
pub record IsDirectoryWalk (size : ℕ) (contents : Contents) (layout ppn : ℕ) (nodes : List (Node SpecFileEntry))
    (last : ℕ) : Type 0 where
  pub word : ℕ
  pub first : ℕ
  pub named : IsDirectoryNamed size contents layout ppn word first
  pub walk : LeadsAlong file_words contents first nodes last

-- The directory of this place, as far as it was walked, has its name, with this prime block.
pub record IsFileNamed (size : ℕ) (contents : Contents) (layout : ℕ) (place : Place) (prime : ℕ) : Type 0 where
  pub nodes : List (Node SpecFileEntry)
  pub last : ℕ
  pub walk : IsDirectoryWalk size contents layout place.ppn nodes last
  pub entry : find name_cmp place.name (items nodes) ≡ Some prime

-- The prime block says this, for any place, and names these runs and this extension or 0.
pub record IsPrimeRead (contents : Contents) (layout prime : ℕ) (p : SpecPrime) (runs : List SpecRun) (next : ℕ) : Type
    0 where
  pub words : contents prime ≡ Some (prime_block p runs next)
  pub ppn_fits : IsPpn p.place.ppn
  pub ext_fits : p.place.name.ext < 2 ^ 18
  pub fits : IsPrime layout p
  pub are_runs : AllByRecursion IsRun runs
