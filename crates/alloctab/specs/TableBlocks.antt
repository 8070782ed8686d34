-- The words of a table block.
use Rattle.std.specs.Prelude.{ℕ, zero, suc, ◌+◌, ◌*◌, List, [], ◌∷◌, ◌++◌}

-- the number that k bits make, the first the most significant
unfoldable pub number_of : (ℕ → ℕ) → ℕ → ℕ → ℕ
number_of bits from zero = 0
number_of bits from (suc k) = number_of bits from k * 2 + bits (from + k)

-- k words of 36 bits
unfoldable pub words_of : (ℕ → ℕ) → ℕ → ℕ → List ℕ
words_of bits from zero = []
words_of bits from (suc k) = words_of bits from k ++ number_of bits (from + 36 * k) 36 ∷ []

-- the words of table block i, counted from 0
unfoldable pub table_words : (ℕ → ℕ) → ℕ → List ℕ
table_words bits i = words_of bits (4608 * i) 128
