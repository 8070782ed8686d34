-- What the blocks that a check of a disk has reached require of its table. They are a list with a truth value for
-- each block of the disk.
use Rattle.std.specs.Prelude.{◌≡◌, ℕ, ◌+◌, ◌/◌, ◌<◌, Bool, List}
use Rattle.spec_image.specs.Common.{table_start, fixed}
use Rattle.alloctab.specs.Lists.{digit_at}
use Rattle.alloctab.specs.TableState.{TableState, bit}

-- the bit that block n must have
abbrev pub wanted_bit : ℕ → List Bool → ℕ → ℕ
wanted_bit size reached n = fixed size n + digit_at reached n

-- Block b is a table block with a wrong bit.
pub record IsWrongBlock (t : TableState) (reached : List Bool) (b : ℕ) : Type 0 where
  pub i : ℕ
  pub block : b ≡ table_start t.size + i
  pub k : ℕ
  pub inside : k < t.size
  pub here : k / 4608 ≡ i
  pub wrong : bit t k ≡ wanted_bit t.size reached k → ⊥
