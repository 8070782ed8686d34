-- A quiet write is one that no crash can notice: its block is in the free space and is clear in the settled table.
-- Whatever is written to such blocks, the disk stands for the same files.
use Rattle.std.specs.Prelude.{◌≡◌, ℕ, ◌≤◌, ◌⊎◌}
use Rattle.blockdisk.specs.Common.{Contents, DiskState, MayLeave}
use Rattle.spec_image.specs.Regions.{space_start, table_start}
use Rattle.spec_image.specs.Log.{IsSettled}
use Rattle.spec_image.specs.Table.{table_bit}

-- the block is free in these settled contents
pub record IsFreeBlock (size : ℕ) (settled : Contents) (n : ℕ) : Type 0 where
  pub in_space : space_start size ≤ n
  pub clear : table_bit size settled n ≡ 0

-- two contents differ only in free blocks
abbrev pub DifferInFree : ℕ → Contents → Contents → Contents → Type 0
DifferInFree size settled old new = (n : ℕ) → (new n ≡ old n) ⊎ IsFreeBlock size settled n

-- two contents agree in the home copies and from the start of the table, so that they may differ in gate and log
abbrev pub SameOutsideLog : ℕ → Contents → Contents → Type 0
SameOutsideLog size old new = (n : ℕ) → (n ≡ 1) ⊎ (n ≡ 2) ⊎ (table_start size ≤ n) → new n ≡ old n

-- A write to this block is quiet: the block is free in the settled contents of whatever a crash may leave.
abbrev pub IsQuiet : DiskState → ℕ → Type 0
IsQuiet s n = (c settled : Contents) → MayLeave s c → IsSettled s.size c settled → IsFreeBlock s.size settled n
