-- The puts of a change set: each is for another block.
use Rattle.std.specs.Prelude.{ℕ, ◌<◌, ◌≤◌, ◌==◌, if◌then◌else◌, List, [], ◌∷◌}
use Rattle.spec_image.specs.declared.put.Put.{Put}
use Rattle.spec_image.specs.Common.{times, targets}

-- as many as the log of the largest disk has room for
abbrev pub most_puts : ℕ
most_puts = 37

-- one of these puts is for block n
abbrev pub IsPutIn : List Put → ℕ → Type 0
IsPutIn puts n = 0 < times n (targets puts)

-- no two of them are for one block
abbrev pub AreDistinct : List Put → Type 0
AreDistinct puts = (n : ℕ) → times n (targets puts) ≤ 1

-- the puts with one more, in place of one for the same block
abbrev pub replaced : Put → List Put → List Put
replaced new [] = new ∷ []
replaced new (put ∷ puts) = if put.block == new.block then new ∷ puts else put ∷ replaced new puts
