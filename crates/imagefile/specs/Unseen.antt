-- What no call shows of a file: how it began, what its writes left if they took less than they were given, and what
-- its failed syncs left.
use Rattle.std.specs.Prelude.{◌≡◌, ℕ, Bool, false, List, [], length, get_or, refl}
use Rattle.std.specs.Coded.{Coded, code_by, coded×, coded_ℕ, coded_bool, coded_list}
use Rattle.imagefile.specs.File.{Bytes}

pub record Unseen : Type 0 where
  -- the bytes before the first call: as many as the file has
  pub first : List ℕ
  -- which of them were open
  pub opened : List Bool
  -- what the call after n others left: if it was a write, at each place of the file that it was to write and didn't;
  -- if it was a sync that failed, at each place that was open
  pub left : List (List ℕ)

-- the number of bytes
abbrev pub size_of : Unseen → ℕ
size_of u = length u.first

-- the byte at each place before the first call
abbrev pub first_bytes : Unseen → Bytes
first_bytes u p = get_or u.first p 0

-- and whether it was open
abbrev pub first_open : Unseen → ℕ → Bool
first_open u p = get_or u.opened p false

-- what the call after n others left at each place
abbrev pub left_by : Unseen → ℕ → Bytes
left_by u n p = get_or (get_or u.left n []) p 0

-- How the logic stores it.

abbrev UnseenParts : Type 0
UnseenParts = List ℕ × (List Bool × List (List ℕ))

abbrev to_parts : Unseen → UnseenParts
to_parts u = (u.first, (u.opened, u.left))

abbrev from_parts : UnseenParts → Unseen
from_parts p = record { first = p.0; opened = p.1.0; left = p.1.1 }

pub from_parts-to_parts : (u : Unseen) → from_parts (to_parts u) ≡ u
from_parts-to_parts u = refl

abbrev pub unseen_code : Coded Unseen
unseen_code = code_by UnseenParts (coded× (coded_list coded_ℕ)
    (coded× (coded_list coded_bool) (coded_list (coded_list coded_ℕ)))) to_parts from_parts from_parts-to_parts
