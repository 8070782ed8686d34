-- Lists of block numbers.
use Rattle.std.specs.Prelude.{◌≡◌, ℕ, ◌<◌, List, [], ◌∷◌}
use Rattle.blockdisk.specs.Common.{Contents}
use Rattle.spec_image.specs.Maps.{times}

-- the first block, or 0 if there is none
abbrev pub head_or_zero : List ℕ → ℕ
head_or_zero [] = 0
head_or_zero (n ∷ ns) = n

-- The two contents are the same in the listed blocks.
abbrev pub AgreeOn : List ℕ → Contents → Contents → Type 0
AgreeOn blocks old new = (n : ℕ) → 0 < times n blocks → new n ≡ old n
