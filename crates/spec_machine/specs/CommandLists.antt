-- Command lists: what IN and OUT move in dump mode. A command word with a nonzero left half names words of the core:
-- the left half is minus their count, the right half the address before the first. With a left half of 0 it names the
-- command word that comes next. The word 0 ends the list.
use Rattle.std.specs.Prelude.{ℕ, zero, suc, ◌+◌, ◌-◌, ◌^◌, ◌==◌, nat_lt, nat_le, if◌then◌else◌, List, [], ◌∷◌, length}
use Rattle.std.specs.Prelude.{Option, Some, None, option_map, slice_index}
use Rattle.words36.specs.Common.{left, right}
use Rattle.spec_image.specs.Common.{total}
use Rattle.spec_machine.specs.Cores.{lies_outside}
use Rattle.spec_machine.specs.declared.area.Area.{Area}

-- how many words areas have
abbrev pub word_count : List Area → ℕ
word_count areas = total (λ area. area.count) areas

-- the words that a command word names
abbrev pub area_of : ℕ → Area
area_of command = record { first = right command + 1; count = 2 ^ 18 - left command }

-- where the list continues after a command word
abbrev pub next_command : ℕ → ℕ → ℕ
next_command address command = if left command == 0 then right command else address + 1

-- What the list at an address names, if it ends within this number of command words, and these and all that they name
-- lie in the core. Nothing is moved meanwhile: every command word is read from this one core.
unfoldable pub areas_from : List ℕ → ℕ → ℕ → Option (List Area)
areas_from core zero address = None
areas_from core (suc more) address =
    let command = slice_index core address in
    let rest = areas_from core more (next_command address command) in
    if nat_le (length core) address then None
    else if command == 0 then Some []
    else if left command == 0 then rest
    else if lies_outside core (area_of command).first (area_of command).count then None
    else option_map (λ areas. area_of command ∷ areas) rest

-- the areas, if they have no more words than the largest core
abbrev pub limited : Option (List Area) → Option (List Area)
limited None = None
limited (Some areas) = if nat_lt 131072 (word_count areas) then None else Some areas

-- What a command list names, of at most 512 command words. None is AddressCheck.
unfoldable pub dump_list : List ℕ → ℕ → Option (List Area)
dump_list core address = limited (areas_from core 512 address)
