-- How a table is stored in memory: words with the bits that are set, and words with a bit for each block that is
-- held.
use Rattle.std.specs.Prelude.{◌≡◌, ◌<◌, ◌≤◌, ℕ, ◌+◌, ◌*◌, ◌==◌, if◌then◌else◌, Bool, List, length, slice_index}
use Rattle.spec_image.specs.Common.{IsVolumeSize, table_blocks}
use Rattle.alloctab.specs.Words.{word_bit, flags, IsClearFrom}
use Rattle.alloctab.specs.TableState.{TableState}

-- the table of a disk of this size, whose set bits are these words, and whose blocks are held as often as these
-- counts
abbrev pub table_of : ℕ → List ℕ → List ℕ → ℕ → List Bool → TableState
table_of size set counts booked changed = record {
  size = size;
  bits = flags (word_bit set) size;
  held = counts;
  booked = booked;
  changed = changed;
}

-- Every table is stored in this way.
pub record IsTableInMemory (size : ℕ) (set held counts : List ℕ) (changed : List Bool) (hint : ℕ) : Type 0 where
  pub volume : IsVolumeSize size
  -- The words are those of whole table blocks, and no bit past the end of the disk is set.
  pub set_long : length set ≡ 128 * table_blocks size
  pub past : IsClearFrom size set
  -- The bits of held blocks are in step with the counts.
  pub held_long : length held ≡ 128 * table_blocks size
  pub counts_long : length counts ≡ size
  pub in_step : (n : ℕ) → n < size → word_bit held n ≡ (if slice_index counts n == 0 then 0 else 1)
  pub changed_long : length changed ≡ table_blocks size
  -- No block below the hint is free.
  pub hint_inside : hint ≤ size
  pub none_below : (n : ℕ) → n < hint → word_bit set n + word_bit held n ≡ 0 → ⊥
