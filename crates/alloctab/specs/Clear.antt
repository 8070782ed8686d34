-- The bits that are clear in two lists of words of one length.
use Rattle.std.specs.Prelude.{◌≡◌, ◌<◌, ℕ, zero, suc, ◌+◌, ◌-◌, ◌*◌, ◌^◌, ◌==◌, if◌then◌else◌, List, length}
use Rattle.std.specs.Prelude.{slice_index, Option, None, Some}
use Rattle.std.specs.Int.{bit_at}
use Rattle.std.specs.Int.Bits.{bit_or, bit_xor}
use Rattle.spec_image.specs.Common.{sum_below}
use Rattle.alloctab.specs.Words.{word_bit}

-- 1 for a bit that is clear in both, else 0
abbrev pub clear_bit : List ℕ → List ℕ → ℕ → ℕ
clear_bit set held n = if word_bit set n + word_bit held n == 0 then 1 else 0

-- how many bits are clear in both
abbrev pub count_clear : List ℕ → List ℕ → ℕ
count_clear set held = sum_below (clear_bit set held) (36 * length set)

abbrev pub or_else : Option ℕ → Option ℕ → Option ℕ
or_else None other = other
or_else (Some n) other = Some n

-- the lowest number below k that has a 1
unfoldable pub lowest_one : (ℕ → ℕ) → ℕ → Option ℕ
lowest_one bits zero = None
lowest_one bits (suc k) = or_else (lowest_one bits k) (if bits k == 1 then Some k else None)

-- the lowest bit that is clear in both
abbrev pub first_clear : List ℕ → List ℕ → Option ℕ
first_clear set held = lowest_one (clear_bit set held) (36 * length set)

-- the word of the bits that are clear in two words of 36 bits
abbrev pub clear_word : ℕ → ℕ → ℕ
clear_word a b = bit_xor (2 ^ 36 - 1) (bit_or a b)

-- the same for the words at place w of two lists
abbrev pub clear_at : List ℕ → List ℕ → ℕ → ℕ
clear_at set held w = clear_word (slice_index set w) (slice_index held w)

-- This is the first place, from the most significant, whose bit is clear in two words of 36 bits.
pub record IsFirstPlace (a b place : ℕ) : Type 0 where
  pub inside : place < 36
  pub clear : (bit_at a (35 - place) ≡ 0) × (bit_at b (35 - place) ≡ 0)
  pub first : (p : ℕ) → p < place → bit_at a (35 - p) + bit_at b (35 - p) ≡ 0 → ⊥
