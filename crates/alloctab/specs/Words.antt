-- Lists of words of 36 bits, seen as bits. Bit 0 is the most significant of the first word.
use Rattle.std.specs.Prelude.{◌≡◌, ◌≤◌, ℕ, zero, suc, ◌-◌, ◌/◌, ◌%◌, ◌==◌, Bool, List, [], ◌∷◌, ◌++◌, length}
use Rattle.std.specs.Prelude.{slice_index}
use Rattle.std.specs.Int.{bit_at}
use Rattle.alloctab.specs.Lists.{digit}

-- bit n: 0 past the last word
abbrev pub word_bit : List ℕ → ℕ → ℕ
word_bit words n = bit_at (slice_index words (n / 36)) (35 - n % 36)

-- the first k bits as truth values
unfoldable pub flags : (ℕ → ℕ) → ℕ → List Bool
flags bits zero = []
flags bits (suc k) = flags bits k ++ (bits k == 1) ∷ []

-- Bit n and all bits after it are clear.
abbrev pub IsClearFrom : ℕ → List ℕ → Type 0
IsClearFrom n words = (m : ℕ) → n ≤ m → word_bit words m ≡ 0

-- The new words are the old ones with this bit at n.
pub record PutsBit (n : ℕ) (set : Bool) (old new : List ℕ) : Type 0 where
  pub long : length new ≡ length old
  pub same : word_bit new n ≡ digit set
  pub others : (m : ℕ) → (m ≡ n → ⊥) → word_bit new m ≡ word_bit old m
