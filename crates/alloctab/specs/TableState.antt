-- The state of an allocation table in memory.
use Rattle.std.specs.Prelude.{◌≡◌, ℕ, ◌+◌, ◌-◌, ◌/◌, ◌==◌, Bool, true, if◌then◌else◌, List, length, slice_index}
use Rattle.std.specs.Prelude.{slice_set}
use Rattle.spec_image.specs.Common.{IsVolumeSize, table_blocks, space_start, sum_below}
use Rattle.alloctab.specs.Lists.{digit_at, flag_at}

pub record TableState : Type 0 where
  -- how many blocks the disk has
  pub size : ℕ
  -- for each block whether its bit is set
  pub bits : List Bool
  -- for each block how often it is held
  pub held : List ℕ
  -- how many blocks are booked
  pub booked : ℕ
  -- for each table block whether a bit of it was set or cleared
  pub changed : List Bool

-- What holds for every table.
pub record IsTable (t : TableState) : Type 0 where
  pub volume : IsVolumeSize t.size
  pub bits_are : length t.bits ≡ t.size
  pub held_are : length t.held ≡ t.size
  pub changed_are : length t.changed ≡ table_blocks t.size

-- 1 for a block whose bit is set, else 0, also past the end of the disk
abbrev pub bit : TableState → ℕ → ℕ
bit t n = digit_at t.bits n

-- how often a block is held
abbrev pub holds : TableState → ℕ → ℕ
holds t n = slice_index t.held n

-- Block n is neither set nor held.
pub record IsFree (t : TableState) (n : ℕ) : Type 0 where
  pub clear : bit t n ≡ 0
  pub unheld : holds t n ≡ 0

-- how many blocks the free space has
abbrev pub space : ℕ → ℕ
space size = size - space_start size

-- 0 for a block that is neither set nor held, else 1
abbrev pub used : TableState → ℕ → ℕ
used t n = if bit t n + holds t n == 0 then 0 else 1

-- how many blocks of the free space are set or held
abbrev pub used_in_space : TableState → ℕ
used_in_space t = sum_below (λ k. used t (space_start t.size + k)) (space t.size)

-- how often the blocks of the free space are set or held, counted each time
abbrev pub uses : TableState → ℕ
uses t = sum_below (λ k. bit t (space_start t.size + k) + holds t (space_start t.size + k)) (space t.size)

-- Table block i, counted from 0, is changed.
abbrev pub IsChanged : TableState → ℕ → Type 0
IsChanged t i = flag_at t.changed i ≡ true

-- how many table blocks are changed
abbrev pub changed_blocks : TableState → ℕ
changed_blocks t = sum_below (digit_at t.changed) (length t.changed)

-- the table with this bit at block n, whose table block is then changed
abbrev pub with_bit : TableState → ℕ → Bool → TableState
with_bit t n set = record t { bits = slice_set t.bits n set; changed = slice_set t.changed (n / 4608) true }

-- the table with block n held this number of times
abbrev pub with_held : TableState → ℕ → ℕ → TableState
with_held t n count = record t { held = slice_set t.held n count }
