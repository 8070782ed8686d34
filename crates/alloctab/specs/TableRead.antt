-- What reading a table finds.
use Rattle.std.specs.Prelude.{◌≡◌, ◌⊎◌, ℕ, ◌+◌, ◌/◌, ◌<◌, ◌≤◌, List, length, None, IsSome}
use Rattle.blockdisk.specs.Common.{Contents}
use Rattle.spec_image.specs.Common.{table_blocks, table_start, table_bit, bit_of}
use Rattle.alloctab.specs.Words.{word_bit}

-- These are the bits on the disk, and none of their blocks is damaged.
pub record IsTableOf (size : ℕ) (contents : Contents) (bits : ℕ → ℕ) : Type 0 where
  pub bits_are : (n : ℕ) → bits n ≡ table_bit size contents n
  pub undamaged : (i : ℕ) → i < table_blocks size → IsSome (contents (table_start size + i))

-- Block n is a table block that is damaged, or has a bit set for a number of at least `size`.
pub record IsBadTableBlock (size : ℕ) (contents : Contents) (n : ℕ) : Type 0 where
  pub i : ℕ
  pub in_table : i < table_blocks size
  pub block : n ≡ table_start size + i
  pub wrong : (contents n ≡ None) ⊎ ((k : ℕ) × (size ≤ k) × (k / 4608 ≡ i) × (table_bit size contents k ≡ 1))

-- The words of table block i are these, and the others stay.
pub record CopiesWords (words : List ℕ) (i : ℕ) (old new : List ℕ) : Type 0 where
  pub long : length new ≡ length old
  pub copied : (n : ℕ) → n / 4608 ≡ i → word_bit new n ≡ bit_of words n
  pub others : (n : ℕ) → (n / 4608 ≡ i → ⊥) → word_bit new n ≡ word_bit old n

-- Table block i is read: it isn't damaged, its bits are those of the disk, and the others stay.
pub record ReadsBits (size : ℕ) (contents : Contents) (i : ℕ) (old new : List ℕ) : Type 0 where
  pub undamaged : IsSome (contents (table_start size + i))
  pub read : (n : ℕ) → n / 4608 ≡ i → word_bit new n ≡ table_bit size contents n
  pub others : (n : ℕ) → (n / 4608 ≡ i → ⊥) → word_bit new n ≡ word_bit old n

-- Bit k of table block i is set, and is past the end of the disk.
pub record IsSetPast (words : List ℕ) (i size k : ℕ) : Type 0 where
  pub past : size ≤ k
  pub here : k / 4608 ≡ i
  pub set : bit_of words k ≡ 1
