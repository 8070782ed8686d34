-- Lists of truth values as functions of a number, with false past the end.
use Rattle.std.specs.Prelude.{ℕ, Bool, false, if◌then◌else◌, List, get_or}

-- 1 for true
abbrev pub digit : Bool → ℕ
digit b = if b then 1 else 0

abbrev pub flag_at : List Bool → ℕ → Bool
flag_at flags n = get_or flags n false

abbrev pub digit_at : List Bool → ℕ → ℕ
digit_at flags n = digit (flag_at flags n)
