-- What a home copy says, and what a new volume has.
use Rattle.std.specs.Prelude.{◌≡◌, ◌⊎◌, ℕ, ◌+◌, ◌-◌, ◌<◌, ◌≤◌, ◌==◌, nat_lt, if◌then◌else◌, List, [], ◌∷◌, replicate}
use Rattle.std.specs.Prelude.{Some}
use Rattle.blockdisk.specs.Common.{Contents}
use Rattle.spec_image.specs.Common.{table_blocks, table_start, space_start, SpecHome, home_block, IsHomeCopy}
use Rattle.spec_image.specs.Common.{layout_number, InSpace, HasName, IsVolumeSize, found_map, DiskMap}
use Rattle.alloctab.specs.Common.{table_words}
use Rattle.volume.specs.declared.home.HomeCopy.{HomeCopy}
use Rattle.volume.specs.declared.home.HomeCopy.TheVariants.{Valid, Named, Unnamed}

-- Home copies.

-- what a home copy says that names this layout and this first block of the master directory
abbrev pub home_in : ℕ → ℕ → SpecHome
home_in layout master = record { layout = layout; master = master }

-- the copy in block n isn't valid, whatever it says
abbrev pub IsNoCopy : ℕ → Contents → ℕ → Type 0
IsNoCopy size contents n = (home : SpecHome) → IsHomeCopy size contents n home → ⊥

-- What was found is what the copy in block n says.
abbrev pub IsFound : ℕ → Contents → ℕ → HomeCopy → Type 0
IsFound size contents n (Valid home) = IsHomeCopy size contents n (home_in (layout_number home.layout) home.master)
IsFound size contents n Named = HasName contents n × IsNoCopy size contents n
IsFound size contents n Unnamed = HasName contents n → ⊥

-- a valid copy that was found names a block of the free space
abbrev pub IsFoundInSpace : ℕ → HomeCopy → Type 0
IsFoundInSpace size (Valid home) = InSpace size home.master
IsFoundInSpace size Named = Unit {0}
IsFoundInSpace size Unnamed = Unit {0}

-- The copy in block n is valid on a disk of this size, which a volume may have.
pub record SaysSize (size : ℕ) (contents : Contents) (n : ℕ) : Type 0 where
  pub volume : IsVolumeSize size
  pub home : SpecHome
  pub copy : IsHomeCopy size contents n home

-- the same block with these words, whatever its number
abbrev pub holds_words : List ℕ → Contents
holds_words words n = Some words

-- A new volume.

-- the blocks that are written
abbrev pub IsInitBlock : ℕ → ℕ → Type 0
IsInitBlock size n = (n ≤ 4) ⊎ ((table_start size ≤ n) × (n ≤ space_start size))

-- 1 for the blocks below this one
abbrev pub bit_below : ℕ → ℕ → ℕ
bit_below limit n = if nat_lt n limit then 1 else 0

-- the bits of its table: the fixed regions, and the first block of the master directory after them
abbrev pub fresh_bit : ℕ → ℕ → ℕ
fresh_bit size n = bit_below (space_start size + 1) n

abbrev pub zero_words : List ℕ
zero_words = replicate 128 0

-- Its blocks, as far as they are written.
pub record IsBare (layout size : ℕ) (contents : Contents) : Type 0 where
  pub first : contents 0 ≡ Some zero_words
  pub home : contents 1 ≡ Some (home_block size (home_in layout (space_start size)))
  pub second_home : contents 2 ≡ Some (home_block size (home_in layout (space_start size)))
  pub gate : contents 3 ≡ Some zero_words
  pub log_header : contents 4 ≡ Some zero_words
  pub table : (i : ℕ) → i < table_blocks size → contents (table_start size + i) ≡ Some (table_words (fresh_bit size) i)
  pub master : contents (space_start size) ≡ Some zero_words

-- its map: a master directory of one empty block
abbrev pub bare_map : ℕ → ℕ → DiskMap
bare_map layout size = found_map layout ((space_start size, []) ∷ []) []

-- the words that block n of it gets
abbrev pub fresh_words : ℕ → ℕ → ℕ → List ℕ
fresh_words layout size n =
    if n == 1 then home_block size (home_in layout (space_start size)) else
    if n == 2 then home_block size (home_in layout (space_start size)) else
    if nat_lt n (table_start size) then zero_words else
    if nat_lt n (space_start size) then table_words (fresh_bit size) (n - table_start size) else zero_words
