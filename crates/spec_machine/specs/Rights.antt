-- Who may do what with a file, and in a directory.
-- A protection is three octal digits: the owner's, his project's, and that of all others.
use Rattle.std.specs.Prelude.{ℕ, ◌-◌, ◌^◌, ◌/◌, ◌%◌, ◌==◌, nat_le, Bool, if◌then◌else◌}
use Rattle.words36.specs.Common.{left, join}

-- [1,2], which may do everything
abbrev pub system : ℕ
system = join 1 2

-- the digit that counts for `who`, where `owner` is the directory's project-programmer number
abbrev pub digit : ℕ → ℕ → ℕ → ℕ
digit protection who owner =
    if who == owner then protection / 64
    else if left who == left owner then protection / 8 % 8
    else protection % 8

-- A file's digit forbids: each digit forbids all that the next lower one does, and 0 forbids nothing.
abbrev pub file_digit : ℕ → ℕ → ℕ → ℕ
file_digit protection who owner = if who == system then 0 else digit protection who owner

abbrev pub may_execute : ℕ → Bool
may_execute d = nat_le d 6

abbrev pub may_read : ℕ → Bool
may_read d = nat_le d 5

abbrev pub may_append : ℕ → Bool
may_append d = nat_le d 4

abbrev pub may_update : ℕ → Bool
may_update d = nat_le d 3

abbrev pub may_supersede : ℕ → Bool
may_supersede d = nat_le d 2

-- to rename it, or to delete it
abbrev pub may_rename : ℕ → Bool
may_rename d = nat_le d 1

-- to change its protection
abbrev pub may_protect : ℕ → Bool
may_protect d = d == 0

-- The same as a set of acts, a bit each: 1 to execute, then 2, 4, 8, 16, 32 and 64 in the order above.
abbrev pub acts_of : ℕ → ℕ
acts_of d = 2 ^ (7 - d) - 1

-- A directory's digit allows: it is a sum of 4 to look names up, 2 to make new ones, and 1 for nothing.
abbrev pub directory_digit : ℕ → ℕ → ℕ → ℕ
directory_digit protection who owner = if who == system then 7 else digit protection who owner

abbrev pub may_look : ℕ → Bool
may_look d = d / 4 % 2 == 1

abbrev pub may_create : ℕ → Bool
may_create d = d / 2 % 2 == 1
