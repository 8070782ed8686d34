-- V1 with one change: what a start refuses, and what it still accepts. All numbers that the format writes in octal are
-- in octal.
use Rattle.std.specs.Prelude.{ℕ, ◌==◌, if◌then◌else◌, List, [], ◌∷◌, ◌++◌, replicate, Option, Some, None}
use Rattle.blockdisk.specs.Common.{Contents}
use Rattle.spec_image.specs.Maps.{empty, insert}
use Rattle.spec_image.specs.Files.{File, Files}
use Rattle.spec_image.specs.Log.{open_gate}
use Rattle.spec_image.specs.Vector.{v1, foo_txt, owner}

-- the contents with this in block n
abbrev pub update : ℕ → Option (List ℕ) → Contents → Contents
update n content contents = λ k. if k == n then content else contents k

-- What still stands for files.

-- the first home copy is damaged
abbrev pub v1_untouched_copy : Contents
v1_untouched_copy = update 1 None v1

-- the file's time is 23:59
abbrev pub latest_rib : List ℕ
latest_rib = 0o625142000000 ∷ 0o465757000000 ∷ 0o647064000000 ∷ 0o057026377777 ∷ 0o000010000020 ∷ 2 ∷ 1
    ∷ 0 ∷ (replicate 8 0 ++ 0o000001000022 ∷ replicate 111 0)

abbrev pub v1_latest_minute : Contents
v1_latest_minute = update 17 (Some latest_rib) v1

abbrev pub latest_hello : File
latest_hello = record {
  protection = 0o057;
  mode = 0;
  time = 1439;
  date = 4095;
  body = 0o442131446236 ∷ 0o064240000000 ∷ [];
}

abbrev pub latest_files : Files File
latest_files = insert empty owner (record { protection = 0o775; quota = 0; files = insert empty foo_txt latest_hello })

-- The gate is open except for its last word. The log header is zeros, as in V1.
abbrev pub nearly_open_gate : List ℕ
nearly_open_gate = replicate 127 0o252525252525 ++ 0 ∷ []

abbrev pub v1_closed_gate : Contents
v1_closed_gate = update 3 (Some nearly_open_gate) v1

-- Faults of the home blocks and the log.

-- neither copy begins with FILSER
abbrev pub nameless_home : List ℕ
nameless_home = 0 ∷ 1 ∷ 0o100 ∷ 1 ∷ 0o11 ∷ 0o17 ∷ replicate 122 0

abbrev pub v1_not_volume : Contents
v1_not_volume = update 1 (Some nameless_home) (update 2 (Some nameless_home) v1)

-- the layout is 3
abbrev pub third_home : List ℕ
third_home = 0o465154634562 ∷ 3 ∷ 0o100 ∷ 1 ∷ 0o11 ∷ 0o17 ∷ replicate 122 0

abbrev pub v1_bad_home : Contents
v1_bad_home = update 1 (Some third_home) (update 2 (Some third_home) v1)

-- the gate is open, and the log header is zeros, as in V1
abbrev pub v1_bad_log : Contents
v1_bad_log = update 3 (Some open_gate) v1

-- Faults of the directories.

-- the master directory counts 43 entries
abbrev pub crowded_master : List ℕ
crowded_master = 0 ∷ 0o53 ∷ 0o000010000020 ∷ 0o775000000000 ∷ 0o20 ∷ replicate 123 0

abbrev pub v1_too_many_entries : Contents
v1_too_many_entries = update 15 (Some crowded_master) v1

-- the block of [10,20] names itself as the next
abbrev pub looping_block : List ℕ
looping_block = 0o20 ∷ 1 ∷ 0o465757000000 ∷ 0o647064000000 ∷ 0o21 ∷ replicate 123 0

abbrev pub v1_looping_directory : Contents
v1_looping_directory = update 16 (Some looping_block) v1

-- Faults of the file.

-- its time is 24:00
abbrev pub late_rib : List ℕ
late_rib = 0o625142000000 ∷ 0o465757000000 ∷ 0o647064000000 ∷ 0o057026407777 ∷ 0o000010000020 ∷ 2 ∷ 1
    ∷ 0 ∷ (replicate 8 0 ++ 0o000001000022 ∷ replicate 111 0)

abbrev pub v1_late_minute : Contents
v1_late_minute = update 17 (Some late_rib) v1

-- it has 129 words, which take two blocks, and one is named
abbrev pub long_rib : List ℕ
long_rib = 0o625142000000 ∷ 0o465757000000 ∷ 0o647064000000 ∷ 0o057000007777 ∷ 0o000010000020 ∷ 0o201
    ∷ 1 ∷ 0 ∷ (replicate 8 0 ++ 0o000001000022 ∷ replicate 111 0)

abbrev pub v1_too_long : Contents
v1_too_long = update 17 (Some long_rib) v1

-- its data block is damaged
abbrev pub v1_damaged_data : Contents
v1_damaged_data = update 18 None v1

-- Its data block is the directory's block. The table has a bit for each block that is named.
abbrev pub shared_rib : List ℕ
shared_rib = 0o625142000000 ∷ 0o465757000000 ∷ 0o647064000000 ∷ 0o057000007777 ∷ 0o000010000020 ∷ 2 ∷ 1
    ∷ 0 ∷ (replicate 8 0 ++ 0o000001000020 ∷ replicate 111 0)

abbrev pub shared_table : List ℕ
shared_table = 0o777777000000 ∷ replicate 127 0

abbrev pub v1_shared_block : Contents
v1_shared_block = update 17 (Some shared_rib) (update 14 (Some shared_table) v1)

-- Faults of the table.

-- it has the bit of block 107, which is past the end
abbrev pub longer_table : List ℕ
longer_table = 0o777777400000 ∷ 0 ∷ 1 ∷ replicate 125 0

abbrev pub v1_bit_past_the_end : Contents
v1_bit_past_the_end = update 14 (Some longer_table) v1

-- it has the bit of block 19, which is free
abbrev pub extra_table : List ℕ
extra_table = 0o777777600000 ∷ replicate 127 0

abbrev pub v1_extra_bit : Contents
v1_extra_bit = update 14 (Some extra_table) v1
