-- A job's core: a list of words, and writes into it.
use Rattle.std.specs.Prelude.{ℕ, ◌+◌, nat_lt, Bool, List, [], ◌∷◌, ◌++◌, length, take, drop, slice_index, slice_range}
use Rattle.std.specs.Prelude.{slice_set}
use Rattle.words36.specs.Common.{left, join}
use Rattle.spec_machine.specs.declared.area.Area.{Area}

-- the job word whose right half names the place of the next ring of buffers, and the place of the first one
abbrev pub first_free : ℕ
first_free = 0o121

abbrev pub rings_begin : ℕ
rings_begin = 0o140

-- not all of the `count` words at an address and after it are in the core
abbrev pub lies_outside : List ℕ → ℕ → ℕ → Bool
lies_outside core address count = nat_lt (length core) (address + count)

-- the core after writes, each of a word at an address, in their order
abbrev pub after_writes : List ℕ → List (ℕ × ℕ) → List ℕ
after_writes core [] = core
after_writes core (w ∷ ws) = after_writes (slice_set core w.0 w.1) ws

-- the writes that put these words at consecutive addresses
abbrev pub placed : ℕ → List ℕ → List (ℕ × ℕ)
placed address [] = []
placed address (w ∷ ws) = (address, w) ∷ placed (address + 1) ws

-- the core whose word at an address has this right half
abbrev pub with_right : List ℕ → ℕ → ℕ → List ℕ
with_right core address number = slice_set core address (join (left (slice_index core address)) number)

-- the writes that deal words out to areas in their order, until either ends
abbrev pub dealt : List Area → List ℕ → List (ℕ × ℕ)
dealt [] words = []
dealt (area ∷ areas) words = placed area.first (take area.count words) ++ dealt areas (drop area.count words)

-- the words of areas, joined
abbrev pub joined : List ℕ → List Area → List ℕ
joined core [] = []
joined core (area ∷ areas) = slice_range core area.first (area.first + area.count) ++ joined core areas
