-- SIXBIT packs six characters into a word, the first leftmost. A character is its ASCII code less 32,
-- so the codes run from 32 (a blank, 0) to 95 (underline, 63): octal 40 to 137. A text of fewer than
-- six characters is followed by blanks. (TOPS-10 Monitor Calls Manual.)
use Rattle.std.specs.Prelude.{ℕ, ◌+◌, ◌-◌, ◌*◌, ◌/◌, ◌%◌, ◌^◌, ◌≤◌, List, [], ◌∷◌, ◌++◌, length, replicate}
use Rattle.std.specs.Prelude.{slice_index_or, All}

abbrev pub IsSixbitCharacter : ℕ → Type 0
IsSixbitCharacter c = (32 ≤ c) × (c ≤ 95)

abbrev pub IsSixbitText : List ℕ → Type 0
IsSixbitText text = (length text ≤ 6) × All IsSixbitCharacter text

-- the code of the character at place i, counted from 0; past the end of the text it is a blank's
abbrev pub code : List ℕ → ℕ → ℕ
code text i = slice_index_or text i 32 - 32

-- the word that a text packs into
abbrev pub sixbit : List ℕ → ℕ
sixbit text =
    code text 0 * 64 ^ 5 + code text 1 * 64 ^ 4 + code text 2 * 64 ^ 3 + code text 3 * 64 ^ 2 + code text 4 * 64
    + code text 5

-- the six characters of a word
abbrev pub characters : ℕ → List ℕ
characters w =
    (w / 64 ^ 5 % 64 + 32) ∷ (w / 64 ^ 4 % 64 + 32) ∷ (w / 64 ^ 3 % 64 + 32) ∷ (w / 64 ^ 2 % 64 + 32)
    ∷ (w / 64 % 64 + 32) ∷ (w % 64 + 32) ∷ []

-- a text with the blanks that follow it
abbrev pub six_characters : List ℕ → List ℕ
six_characters text = text ++ replicate (6 - length text) 32
