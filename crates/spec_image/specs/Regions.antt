-- The fixed regions of a disk of `size` blocks. Block 0 is zero and ignored; 1 and 2 are the home copies, 3 is the
-- gate, 4 the log header; then come the log's images, the allocation table, and the free space, in which `init` puts
-- the master directory first.
use Rattle.std.specs.Prelude.{ℕ, ◌+◌, ◌/◌, ◌≤◌}

-- a disk that can be a volume has 64 to 131072 blocks
pub record IsVolumeSize (size : ℕ) : Type 0 where
  pub small : 64 ≤ size
  pub large : size ≤ 131072

-- how many blocks the allocation table has, with 4608 bits in each
abbrev pub table_blocks : ℕ → ℕ
table_blocks size = (size + 4607) / 4608

-- how many images the log has room for
abbrev pub log_images : ℕ → ℕ
log_images size = table_blocks size + 8

-- the first image
abbrev pub log_start : ℕ
log_start = 5

-- the first block of the allocation table
abbrev pub table_start : ℕ → ℕ
table_start size = log_images size + 5

-- the first block of the free space
abbrev pub space_start : ℕ → ℕ
space_start size = table_start size + table_blocks size
