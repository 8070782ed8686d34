-- ASCII packs five characters of seven bits into a word, the first leftmost. Bit 35, the last, is zero when packed
-- and is ignored when unpacked. A last word with fewer than five characters is filled with nulls. (TOPS-10 Monitor
-- Calls Manual.)
use Rattle.std.specs.Prelude.{ℕ, ◌+◌, ◌-◌, ◌*◌, ◌/◌, ◌%◌, ◌^◌, List, [], ◌∷◌, ◌++◌, length, replicate, slice_index}
use Rattle.std.specs.Prelude.{flat_map}

-- the word of up to five characters
abbrev pub ascii_word_of : List ℕ → ℕ
ascii_word_of text =
    2 * (slice_index text 0 * 128 ^ 4 + slice_index text 1 * 128 ^ 3 + slice_index text 2 * 128 ^ 2
    + slice_index text 3 * 128 + slice_index text 4)

-- the words of a text
abbrev pub packed : List ℕ → List ℕ
packed [] = []
packed (a ∷ []) = ascii_word_of (a ∷ []) ∷ []
packed (a ∷ b ∷ []) = ascii_word_of (a ∷ b ∷ []) ∷ []
packed (a ∷ b ∷ c ∷ []) = ascii_word_of (a ∷ b ∷ c ∷ []) ∷ []
packed (a ∷ b ∷ c ∷ d ∷ []) = ascii_word_of (a ∷ b ∷ c ∷ d ∷ []) ∷ []
packed (a ∷ b ∷ c ∷ d ∷ e ∷ rest) = ascii_word_of (a ∷ b ∷ c ∷ d ∷ e ∷ []) ∷ packed rest

-- the five characters of a word
abbrev pub five_characters : ℕ → List ℕ
five_characters w =
    (w / (2 * 128 ^ 4) % 128) ∷ (w / (2 * 128 ^ 3) % 128) ∷ (w / (2 * 128 ^ 2) % 128) ∷ (w / (2 * 128) % 128)
    ∷ (w / 2 % 128) ∷ []

-- the characters of words, nulls included
abbrev pub unpacked : List ℕ → List ℕ
unpacked words = flat_map five_characters words

-- a text with the nulls that fill its last word
abbrev pub null_padded : List ℕ → List ℕ
null_padded text = text ++ replicate ((5 - length text % 5) % 5) 0

-- a word with bit 35 clear
abbrev pub without_last_bit : ℕ → ℕ
without_last_bit w = w - w % 2
