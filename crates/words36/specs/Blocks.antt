-- A block of the disk is 128 words. In an image it is 1024 bytes: a word is eight bytes, the most
-- significant first, so its top 28 bits are zero.
use Rattle.std.specs.Prelude.{ℕ, ◌+◌, ◌*◌, ◌/◌, ◌%◌, ◌^◌, ◌<◌, ◌≤◌, ◌≡◌, List, [], ◌∷◌, length, All, flat_map}
use Rattle.std.specs.Prelude.{slice_index}
use Rattle.words36.specs.Words.{IsWord}

pub record IsBlock (words : List ℕ) : Type 0 where
  pub long : length words ≡ 128
  pub each : All IsWord words

-- the eight bytes of a word
abbrev pub word_bytes : ℕ → List ℕ
word_bytes w =
    (w / 256 ^ 7 % 256) ∷ (w / 256 ^ 6 % 256) ∷ (w / 256 ^ 5 % 256) ∷ (w / 256 ^ 4 % 256) ∷ (w / 256 ^ 3 % 256)
    ∷ (w / 256 ^ 2 % 256) ∷ (w / 256 % 256) ∷ (w % 256) ∷ []

-- the bytes of a block's words
abbrev pub block_bytes : List ℕ → List ℕ
block_bytes words = flat_map word_bytes words

-- the number in the eight bytes at a word's place, counted from 0
unfoldable pub number_at : List ℕ → ℕ → ℕ
number_at bytes place =
    slice_index bytes (8 * place) * 256 ^ 7 + slice_index bytes (8 * place + 1) * 256 ^ 6
    + slice_index bytes (8 * place + 2) * 256 ^ 5 + slice_index bytes (8 * place + 3) * 256 ^ 4
    + slice_index bytes (8 * place + 4) * 256 ^ 3 + slice_index bytes (8 * place + 5) * 256 ^ 2
    + slice_index bytes (8 * place + 6) * 256 + slice_index bytes (8 * place + 7)

-- the first of `count` places whose eight bytes are no word
pub record IsFirstBadWord (count : ℕ) (bytes : List ℕ) (place : ℕ) : Type 0 where
  pub inside : place < count
  pub bad : 2 ^ 36 ≤ number_at bytes place
  pub first : (k : ℕ) → k < place → IsWord (number_at bytes k)
