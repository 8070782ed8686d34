-- The home blocks. Blocks 1 and 2 are copies; a copy is valid if every word of it is right, and the first valid copy
-- counts. It names the layout and the first block of the master directory.
use Rattle.std.specs.Prelude.{◌≡◌, ℕ, ◌<◌, ◌≤◌, ◌⊎◌, List, ◌∷◌, replicate, Some}
use Rattle.blockdisk.specs.Common.{Contents}
use Rattle.spec_image.specs.Regions.{table_blocks, log_images, space_start}

-- FILSER in SIXBIT
abbrev pub filser_word : ℕ
filser_word = 0o465154634562

pub record SpecHome : Type 0 where
  pub layout : ℕ
  -- the first block of the master directory
  pub master : ℕ

-- The layouts that an image may have. What a layout means for dates and quotas is a parameter of the other definitions.
abbrev pub IsLayout : ℕ → Type 0
IsLayout layout = (layout ≡ 1) ⊎ (layout ≡ 2)

abbrev pub home_block : ℕ → SpecHome → List ℕ
home_block size home = filser_word ∷ home.layout ∷ size ∷ table_blocks size ∷ log_images size ∷ home.master
    ∷ replicate 122 0

-- Block n is a valid home copy with this content.
pub record IsHomeCopy (size : ℕ) (contents : Contents) (n : ℕ) (home : SpecHome) : Type 0 where
  pub words : contents n ≡ Some (home_block size home)
  pub layout : IsLayout home.layout
  pub master_from : space_start size ≤ home.master
  pub master_below : home.master < size

-- The first valid copy has this content.
abbrev pub IsHome : ℕ → Contents → SpecHome → Type 0
IsHome size contents home =
    IsHomeCopy size contents 1 home ⊎ (((other : SpecHome) → IsHomeCopy size contents 1 other → ⊥)
    × IsHomeCopy size contents 2 home)
