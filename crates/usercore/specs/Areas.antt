-- Areas of a core, and those that the steps of a ring may change.
use Rattle.std.specs.Prelude.{◌≡◌, ◌⊎◌, ◌<◌, ◌≤◌, ℕ, ◌+◌, ◌-◌, ◌*◌, ◌==◌, if◌then◌else◌, List, [], ◌∷◌, length}
use Rattle.std.specs.Prelude.{slice_index}
use Rattle.std.specs.List.{AllByRecursion}
use Rattle.spec_machine.specs.declared.area.Area.{Area}
use Rattle.spec_machine.specs.Common.{first_free, buffer_words, base, current, target}

-- an address outside an area
abbrev pub IsOutside : ℕ → Area → Type 0
IsOutside address area = (address < area.first) ⊎ (area.first + area.count ≤ address)

-- A core that became another one with the same number of words: those outside the areas stayed.
pub record ChangesWithin (areas : List Area) (core core' : List ℕ) : Type 0 where
  pub length : length core' ≡ length core
  pub others : (address : ℕ) → AllByRecursion (IsOutside address) areas
      → slice_index core' address ≡ slice_index core address

-- `count` words from an address
abbrev pub words_at : ℕ → ℕ → Area
words_at address count = record { first = address; count = count }

-- a setup of n buffers: the job word that says where rings go, the buffers, and the header
abbrev pub setup_areas : List ℕ → ℕ → ℕ → List Area
setup_areas core header n = words_at first_free 1 ∷ words_at (base core) (n * buffer_words) ∷ words_at header 3 ∷ []

-- A step: the header, `left` words of the buffer that was the current one, and the whole buffer that the step moves on
-- to. If the header names no buffer, a ring of two is set up first, and the step moves on to its first buffer.
abbrev pub step_areas : List ℕ → ℕ → ℕ → List Area
step_areas core header left =
    if current core header == 0 then setup_areas core header 2
    else words_at header 3 ∷ words_at (current core header) left ∷ words_at (target core header - 1) buffer_words ∷ []

-- an IN clears the use bit of the buffer that was the current one, and an OUT writes its count of words too
abbrev pub in_areas : List ℕ → ℕ → List Area
in_areas core header = step_areas core header 1

abbrev pub out_areas : List ℕ → ℕ → List Area
out_areas core header = step_areas core header 2
