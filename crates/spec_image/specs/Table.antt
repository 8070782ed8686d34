-- The allocation table: a bit for each block of the disk. Bit j of word w of table block t, all counted from 0 and bit
-- 0 the most significant, is that of block 4608 * t + 36 * w + j.
use Rattle.std.specs.Prelude.{ℕ, ◌+◌, ◌*◌, ◌-◌, ◌/◌, ◌%◌, ◌^◌, nat_lt, if◌then◌else◌, List, slice_index, Option, Some}
use Rattle.std.specs.Prelude.{None}
use Rattle.blockdisk.specs.Common.{Contents}
use Rattle.spec_image.specs.Regions.{table_blocks, table_start, space_start}

-- the bit of block n in the words of its table block
abbrev pub bit_of : List ℕ → ℕ → ℕ
bit_of words n = (slice_index words (n / 36 % 128) / 2 ^ (35 - n % 36)) % 2

abbrev pub bit_in : Option (List ℕ) → ℕ → ℕ
bit_in None n = 0
bit_in (Some words) n = bit_of words n

-- the bit of block n: 0 past the end of the table
abbrev pub table_bit : ℕ → Contents → ℕ → ℕ
table_bit size contents n = if nat_lt n (4608 * table_blocks size)
    then bit_in (contents (table_start size + n / 4608)) n else 0

-- 1 for the blocks of the fixed regions, whose bits are set
abbrev pub fixed : ℕ → ℕ → ℕ
fixed size n = if nat_lt n (space_start size) then 1 else 0
