-- A word is a whole number below 2^36. Its bit 0 is the most significant, its bit 35 the least.
-- The left half is bits 0 to 17, the right half bits 18 to 35, each a number below 2^18.
-- The TOPS-10 Monitor Calls Manual writes both, and the words below, in octal.
use Rattle.std.specs.Prelude.{ℕ, false, ◌+◌, ◌*◌, ◌/◌, ◌%◌, ◌^◌, ◌<◌, List, [], ◌∷◌, ◌++◌}
use Rattle.std.specs.Fmt.{digits}

abbrev pub IsWord : ℕ → Type 0
IsWord w = w < 2 ^ 36

abbrev pub left : ℕ → ℕ
left w = w / 2 ^ 18

abbrev pub right : ℕ → ℕ
right w = w % 2 ^ 18

-- the word with these halves
abbrev pub join : ℕ → ℕ → ℕ
join l r = l * 2 ^ 18 + r

-- a project-programmer number: the project left and the programmer right, neither zero
pub record IsPpn (w : ℕ) : Type 0 where
  pub word : IsWord w
  pub project : 0 < left w
  pub programmer : 0 < right w

-- the text of a PPN: the project and the programmer in octal, as `[10,20]`
abbrev pub ppn_text : ℕ → List ℕ
ppn_text w = 91 ∷ digits 8 false (left w) ++ (44 ∷ digits 8 false (right w) ++ 93 ∷ [])
