-- What the allocation table says of a block, as far as it can be believed: block by block of the table.
use Rattle.std.specs.Prelude.{◌≡◌, ℕ, ◌+◌, ◌/◌, ◌<◌, ◌≤◌, List, Some}
use Rattle.blockdisk.specs.Common.{Contents}
use Rattle.spec_image.specs.Common.{bit_of, space_start, table_blocks, table_start}
use Rattle.salvage.specs.declared.search.Search.{Search}
use Rattle.salvage.specs.declared.search.Search.TheVariants.{Named, Used, Every}

-- Table block i, with these words, says which of its blocks are in use: it has no bit past the end of the disk, and
-- says of no fixed block that it is free.
pub record TellsBits (size i : ℕ) (words : List ℕ) : Type 0 where
  pub past : (n : ℕ) → n / 4608 ≡ i → size ≤ n → bit_of words n ≡ 0
  pub fixed : (n : ℕ) → n / 4608 ≡ i → n < space_start size → bit_of words n ≡ 1

-- The table says that block n is free.
pub record IsFreeBlock (size : ℕ) (contents : Contents) (n : ℕ) : Type 0 where
  pub words : List ℕ
  pub words_are : contents (table_start size + n / 4608) ≡ Some words
  pub tells : TellsBits size (n / 4608) words
  pub clear : bit_of words n ≡ 0

-- Block n may be in use: the table doesn't say that it is free.
abbrev pub MayBeUsed : ℕ → Contents → ℕ → Type 0
MayBeUsed size contents n = IsFreeBlock size contents n → ⊥

-- Block n of the table can't be believed.
pub record IsUntold (size : ℕ) (contents : Contents) (n : ℕ) : Type 0 where
  pub i : ℕ
  pub in_table : i < table_blocks size
  pub block : n ≡ table_start size + i
  pub untold : (words : List ℕ) → contents n ≡ Some words → TellsBits size i words → ⊥

-- A search for files that no directory names checks block n.
abbrev pub IsSearched : Search → ℕ → Contents → ℕ → Type 0
IsSearched Named size contents n = ⊥
IsSearched Used size contents n = MayBeUsed size contents n
IsSearched Every size contents n = Unit {0}
