-- Files that are taken from a disk, whatever else is wrong with it.
use Rattle.std.specs.Prelude.{◌≡◌, ℕ, ◌<◌, ◌≤◌, List, Contains, length, map, Some}
use Rattle.std.specs.List.{AllByRecursion}
use Rattle.blockdisk.specs.Common.{Contents, IsWholeBlock}
use Rattle.spec_image.specs.Common.{blocks_of as words_blocks, InSpace, Place, times, total, place_of, IsFileNamed}
use Rattle.spec_image.specs.Common.{SpecPrime, SpecRun}
use Rattle.retrieval.specs.Common.{IsVersionAt, SpellsPrime}
use Rattle.volume.specs.Common.{blocks_reached}
use Rattle.salvage.specs.Chains.{IsChainBlock}
use Rattle.salvage.specs.Extensions.{IsExtension}
use Rattle.salvage.specs.FreeBlocks.{MayBeUsed}
use Rattle.salvage.specs.declared.saved.SavedFile.{SavedFile}

-- the blocks of a file: the prime block, the extensions and the data blocks
abbrev pub blocks_of : SavedFile → List ℕ
blocks_of file = blocks_reached file.at file.stored.version

-- the place that its prime block names
abbrev pub place_in : SavedFile → Place
place_in file = place_of file.stored.prime.ppn file.stored.prime.file

-- Its retrieval blocks are whole in this layout, and say this of it.
abbrev pub IsRead : ℕ → ℕ → Contents → SavedFile → Type 0
IsRead size layout contents file = IsVersionAt size contents layout file.at file.stored.prime file.stored.version

-- And a directory names it.
pub record IsNamedRead (size layout : ℕ) (contents : Contents) (file : SavedFile) : Type 0 where
  pub read : IsRead size layout contents file
  pub inside : InSpace size file.at
  pub named : IsFileNamed size contents layout (place_in file) file.at

-- Its retrieval blocks are whole, and none of its data blocks is damaged.
pub record IsWholeFile (size layout : ℕ) (contents : Contents) (file : SavedFile) : Type 0 where
  pub read : IsRead size layout contents file
  pub undamaged : AllByRecursion (IsWholeBlock contents) file.stored.version.blocks

-- Block n is a prime block, which says that its file is of this place.
pub record IsPrimeAt (layout : ℕ) (contents : Contents) (n : ℕ) (place : Place) : Type 0 where
  pub words : List ℕ
  pub words_are : contents n ≡ Some words
  pub p : SpecPrime
  pub runs : List SpecRun
  pub next : ℕ
  pub spells : SpellsPrime layout words p runs next
  pub place_is : p.place ≡ place

-- It fits a disk of this size, whatever its blocks hold: its blocks lie in the free space, and are as many as its
-- length requires.
pub record FitsDisk (size : ℕ) (file : SavedFile) : Type 0 where
  pub at_inside : InSpace size file.at
  pub ribs_inside : AllByRecursion (InSpace size) file.stored.version.ribs
  pub blocks_inside : AllByRecursion (InSpace size) file.stored.version.blocks
  pub counted : length file.stored.version.blocks ≡ words_blocks file.stored.version.words

-- how often a block occurs in these files
abbrev pub claims : List SavedFile → ℕ → ℕ
claims files n = total (λ file. times n (blocks_of file)) files

-- No two of them are at the same prime block.
abbrev pub AreApart : List SavedFile → Type 0
AreApart files = (n : ℕ) → times n (map (λ file. file.at) files) ≤ 1

-- No two of them have an extension in common.
abbrev pub AreAlone : ℕ → ℕ → Contents → List SavedFile → Type 0
AreAlone size layout contents files = (f g : SavedFile) (n : ℕ) → Contains files f → Contains files g
    → (f.at ≡ g.at → ⊥) → IsExtension size layout contents f.at n → IsExtension size layout contents g.at n → ⊥

-- A file of this place at this prime block is among these.
pub record IsAmong (files : List SavedFile) (place : Place) (prime : ℕ) : Type 0 where
  pub file : SavedFile
  pub among : Contains files file
  pub at_is : file.at ≡ prime
  pub place_is : place_in file ≡ place

-- Block n is in this file and in no other place: in none of these files, `read`, a second time, and in no chain; and
-- the table doesn't say that it is free.
pub record IsItsOwn (size layout : ℕ) (contents : Contents) (read : List SavedFile) (n : ℕ) : Type 0 where
  pub once : claims read n ≡ 1
  pub no_chain : IsChainBlock size layout contents n → ⊥
  pub used : MayBeUsed size contents n

-- A directory names the file, it is whole, and each of its blocks is its own, among the files `read` of directories.
pub record IsInPlace (size layout : ℕ) (contents : Contents) (read : List SavedFile) (file : SavedFile)
    : Type 0 where
  pub among : Contains read file
  pub named : IsNamedRead size layout contents file
  pub whole : IsWholeFile size layout contents file
  pub own : (n : ℕ) → 0 < times n (blocks_of file) → IsItsOwn size layout contents read n
