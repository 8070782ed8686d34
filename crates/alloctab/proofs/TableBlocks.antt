-- The bits of a table, read block after block.
use Rattle.std.proofs.Common.{◌≡◌, ⊎_elim, ℕ, ◌+◌, ◌*◌, ◌/◌, ◌<◌, ◌≤◌, Bool, false, List, length, Option, Some, IsSome}
use Rattle.std.proofs.Common.{sym, ◌∙◌, ap, subst, arith}
use Rattle.std.proofs.lemmas.Bool.{cases_eq}
use Rattle.std.proofs.lemmas.Bool.Decides.{nat_tests}
use Rattle.std.proofs.lemmas.List.{get_or_past}
use Rattle.blockdisk.specs.Common.{Contents}
use Rattle.spec_image.specs.Common.{table_blocks, table_start, table_bit, bit_in, bit_of}
use Rattle.alloctab.specs.Common.{digit, digit_at, word_bit, IsClearFrom, IsBadTableBlock, ReadsBits}

pub table_bit_in : (size : ℕ) (c : Contents) (n : ℕ) → n / 4608 < table_blocks size
    → table_bit size c n ≡ bit_in (c (table_start size + n / 4608)) n
table_bit_in size c n below = let inside : n < 4608 * table_blocks size = omega arith in grind (arith, nat_tests)

pub table_bit_past : (size : ℕ) (c : Contents) (n : ℕ) → table_blocks size ≤ n / 4608 → table_bit size c n ≡ 0
table_bit_past size c n past = let outside : 4608 * table_blocks size ≤ n = omega arith in grind (arith, nat_tests)

-- the bit of a block, whose table block has these words
pub table_bit_at : (size : ℕ) (c : Contents) (words : List ℕ) (i n : ℕ) → i < table_blocks size
    → c (table_start size + i) ≡ Some words → n / 4608 ≡ i → table_bit size c n ≡ bit_of words n
table_bit_at size c words i n below is here =
    table_bit_in size c n (omega arith) ∙ ap (λ (k : ℕ). bit_in (c (table_start size + k)) n) here
    ∙ ap (λ (block : Option (List ℕ)). bit_in block n) is

pub past_the_end : (flags : List Bool) (size n : ℕ) → length flags ≡ size → table_blocks size ≤ n / 4608
    → digit_at flags n ≡ 0
past_the_end flags size n long past = ap digit (get_or_past flags n false (omega arith))

-- The bits of the first `count` table blocks are those on the disk, and none of these blocks is damaged.
pub record IsTableBelow (count size : ℕ) (contents : Contents) (bits : ℕ → ℕ) : Type 0 where
  pub bits_are : (n : ℕ) → n / 4608 < count → bits n ≡ table_bit size contents n
  pub undamaged : (i : ℕ) → i < count → IsSome (contents (table_start size + i))

pub read_more : (size : ℕ) (c : Contents) (i : ℕ) (old new : List ℕ) → ReadsBits size c i old new
    → IsTableBelow i size c (word_bit old) → IsTableBelow (i + 1) size c (word_bit new)
read_more size c i old new reads so_far = record {
  bits_are = λ n below. ⊎_elim (λ same. reads.read n same) (λ other. reads.others n other
      ∙ so_far.bits_are n (omega arith)) (cases_eq (n / 4608) i);
  undamaged = λ j below. ⊎_elim (λ same. subst (λ (k : ℕ). IsSome (c (table_start size + k)))
      (sym same) reads.undamaged) (λ other. so_far.undamaged j (omega arith)) (cases_eq j i);
}

-- the same for a disk that holds the same

pub bad_moved : (size size' : ℕ) (c c' : Contents) (n : ℕ) → size ≡ size' → c ≡ c' → IsBadTableBlock size c n
    → IsBadTableBlock size' c' n
bad_moved size size' c c' n same_size same bad = subst (λ (k : ℕ). IsBadTableBlock k c' n) same_size
    (subst (λ (d : Contents). IsBadTableBlock size d n) same bad)

pub reads_moved : (size size' : ℕ) (c c' : Contents) (i : ℕ) (old new : List ℕ) → size ≡ size' → c ≡ c'
    → ReadsBits size c i old new → ReadsBits size' c' i old new
reads_moved size size' c c' i old new same_size same reads = subst (λ (k : ℕ). ReadsBits k c' i old new) same_size
    (subst (λ (d : Contents). ReadsBits size d i old new) same reads)

pub past_moved : (size size' : ℕ) (old new : List ℕ) → size ≡ size' → (IsClearFrom size old → IsClearFrom size new)
    → IsClearFrom size' old → IsClearFrom size' new
past_moved size size' old new same keeps = subst (λ (k : ℕ). IsClearFrom k old → IsClearFrom k new) same keeps
