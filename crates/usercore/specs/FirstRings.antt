-- A ring of two that a step sets up first, seen in the core before it.
use Rattle.std.specs.Prelude.{ℕ, ◌+◌, ◌^◌, ◌%◌, ◌==◌, ◌&&◌, ◌||◌, not, Bool, List, slice_index}
use Rattle.words36.specs.Common.{left}
use Rattle.spec_machine.specs.Common.{first_free, lies_outside, base}

-- The word of its first buffer isn't overwritten by the header, nor by the job word that says where rings go, unless
-- that one has the size of a buffer in its left half.
abbrev pub is_spared : ℕ → ℕ → ℕ → Bool
is_spared b header field =
    not (b + 1 == header + 1 + 1) && not (b + 1 == header + 1) && not (b + 1 == header)
    && (not (b + 1 == first_free) || (field % 2 ^ 17 == 0o201))

-- the ring fits after its base, and its first buffer is good
abbrev pub first_is_good : List ℕ → ℕ → Bool
first_is_good core header =
    not (lies_outside core (base core) 0o406) && not (lies_outside core header 3)
    && is_spared (base core) header (left (slice_index core first_free))
