-- Bytes of eight bits, four in a word from the left, which is the industry's own form. Bits 0 to 31 of a word are its
-- bytes. Bits 32 to 35, the low four bits, are 0 in each word except the last. In the last word they hold how many of
-- its bytes count, 1 to 4, and the bytes that don't count are 0. No bytes make no words.
use Rattle.std.specs.Prelude.{ℕ, ◌+◌, ◌-◌, ◌*◌, ◌/◌, ◌%◌, ◌^◌, ◌<◌, ◌≤◌, ◌≡◌, List, [], ◌∷◌, All, ◌++◌, take, Option}
use Rattle.std.specs.Prelude.{Some, None, if◌then◌else◌}
use Rattle.std.specs.Str.{bytes_eq}

-- the word of four bytes and the low four bits
abbrev pub octet_word : ℕ → ℕ → ℕ → ℕ → ℕ → ℕ
octet_word a b c d low = (a * 256 ^ 3 + b * 256 ^ 2 + c * 256 + d) * 16 + low

-- the low four bits of a full word, given the bytes that follow it
abbrev pub full_word_mark : List ℕ → ℕ
full_word_mark [] = 4
full_word_mark (byte ∷ bytes) = 0

-- the words of bytes
abbrev pub octets_packed : List ℕ → List ℕ
octets_packed [] = []
octets_packed (a ∷ []) = octet_word a 0 0 0 1 ∷ []
octets_packed (a ∷ b ∷ []) = octet_word a b 0 0 2 ∷ []
octets_packed (a ∷ b ∷ c ∷ []) = octet_word a b c 0 3 ∷ []
octets_packed (a ∷ b ∷ c ∷ d ∷ rest) = octet_word a b c d (full_word_mark rest) ∷ octets_packed rest

abbrev pub IsOctet : ℕ → Type 0
IsOctet byte = byte < 256

-- the bytes whose words these are
pub record AreOctets (words bytes : List ℕ) : Type 0 where
  pub fit : All IsOctet bytes
  pub packed : words ≡ octets_packed bytes

-- the four bytes of a word
abbrev pub four_octets : ℕ → List ℕ
four_octets w = (w / 2 ^ 28 % 256) ∷ (w / 2 ^ 20 % 256) ∷ (w / 2 ^ 12 % 256) ∷ (w / 2 ^ 4 % 256) ∷ []

-- how many bytes of a word count, given the words that follow it
abbrev pub octet_count : ℕ → List ℕ → ℕ
octet_count w [] = w % 16
octet_count w (v ∷ words) = 4

-- the bytes in words, whatever their low four bits and the bytes that don't count are
abbrev pub octets_in : List ℕ → List ℕ
octets_in [] = []
octets_in (w ∷ words) = take (octet_count w words) (four_octets w) ++ octets_in words

-- the bytes whose words these are, if there are any
abbrev pub octets_unpacked : List ℕ → Option (List ℕ)
octets_unpacked words = if bytes_eq (octets_packed (octets_in words)) words then Some (octets_in words) else None

-- how many bytes of the last word count, if its low four bits hold that number and its other bytes are 0
abbrev pub CountsOctets : ℕ → ℕ → Type 0
CountsOctets w count = (w % 16 ≡ count) × (1 ≤ count) × (count ≤ 4) × (w / 16 % 256 ^ (4 - count) ≡ 0)

-- Laws: bytes with the same words are the same.
abbrev pub OctetsAreOne : Type 0
OctetsAreOne = (xs ys : List ℕ) → All IsOctet xs → All IsOctet ys → octets_packed xs ≡ octets_packed ys → xs ≡ ys

-- The bytes that are found are those whose words these are.
abbrev pub OctetsAreFound : Type 0
OctetsAreFound = (words bytes : List ℕ) → AreOctets words bytes → octets_unpacked words ≡ Some bytes

abbrev pub FoundOctetsAreRight : Type 0
FoundOctetsAreRight = (words bytes : List ℕ) → octets_unpacked words ≡ Some bytes → AreOctets words bytes
