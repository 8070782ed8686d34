-- The packed form of an image: two words are 72 bits in nine bytes, the first word's bits first and, in each word,
-- the most significant first. So nine bytes are the digits to the base 256 of the number that has the two words as
-- its digits to the base 2^36, and any nine bytes are two words.
use Rattle.std.specs.Prelude.{ℕ, zero, suc, ◌+◌, ◌*◌, ◌/◌, ◌%◌, ◌^◌, List, [], ◌∷◌, ◌++◌, drop}
use Rattle.byteorder.specs.Endian.{big_bytes, big_number}

-- the bytes of pairs of words; a last word without a second one has none
abbrev pub nine_bytes : List ℕ → List ℕ
nine_bytes [] = []
nine_bytes (a ∷ []) = []
nine_bytes (a ∷ b ∷ rest) = big_bytes 9 (a * 2 ^ 36 + b) ++ nine_bytes rest

-- the words of the first n pairs in these bytes
unfoldable pub pairs_in : ℕ → List ℕ → List ℕ
pairs_in zero bytes = []
pairs_in (suc n) bytes = (big_number 9 bytes / 2 ^ 36) ∷ (big_number 9 bytes % 2 ^ 36) ∷ pairs_in n (drop 9 bytes)

-- the words of a block's 576 bytes
abbrev pub nine_words : List ℕ → List ℕ
nine_words bytes = pairs_in 64 bytes
