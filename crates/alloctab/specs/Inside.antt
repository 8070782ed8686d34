-- Where the blocks of an allocation table are.
use Rattle.std.specs.Prelude.{ℕ, ◌<◌, ◌≤◌}
use Rattle.spec_image.specs.Common.{table_start, space_start}

-- a block of the table
pub record InTable (size n : ℕ) : Type 0 where
  pub from : table_start size ≤ n
  pub below : n < space_start size
