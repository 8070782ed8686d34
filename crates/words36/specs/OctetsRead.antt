-- What a reader has found of the bytes of words that come one after the other.
use Rattle.std.specs.Prelude.{ℕ, ◌≡◌, ◌%◌, ◌==◌, ◌&&◌, Bool, true, List, [], ◌∷◌, All, flat_map, Option, Some, None}
use Rattle.words36.specs.Words.{IsWord}
use Rattle.words36.specs.Octets.{four_octets}
use Rattle.words36.specs.declared.octets.OctetReader.{OctetReader}

-- all words before the last, and the last
abbrev pub words_before_last : List ℕ → List ℕ
words_before_last [] = []
words_before_last (w ∷ []) = []
words_before_last (w ∷ v ∷ words) = w ∷ words_before_last (v ∷ words)

abbrev pub last_word : List ℕ → Option ℕ
last_word [] = None
last_word (w ∷ []) = Some w
last_word (w ∷ v ∷ words) = last_word (v ∷ words)

-- whether the low four bits of all words are 0
abbrev pub are_full : List ℕ → Bool
are_full [] = true
are_full (w ∷ words) = w % 16 == 0 && are_full words

-- these words were taken
pub record HasRead (reader : OctetReader) (words : List ℕ) : Type 0 where
  pub fit : All IsWord words
  pub last : reader.last ≡ last_word words
  pub full : reader.is_full ≡ are_full (words_before_last words)
  pub bytes : reader.is_whole ≡ true → reader.bytes.items ≡ flat_map four_octets (words_before_last words)
