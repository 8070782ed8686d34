-- Characters of a line.
use Rattle.std.specs.Prelude.{ℕ, ◌==◌, not, Bool}

-- all but one
abbrev pub is_other_than : ℕ → ℕ → Bool
is_other_than k c = not (c == k)
