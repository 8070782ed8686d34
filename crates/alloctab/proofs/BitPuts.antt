-- A bit of a word, and words of a table block, that are put.
use Rattle.std.proofs.Common.{◌≡◌, ⊎_elim, ℕ, ◌+◌, ◌*◌, ◌-◌, ◌/◌, ◌%◌, ◌^◌, ◌<◌, ◌≤◌, List, length, get_or, bit_or, sym}
use Rattle.std.proofs.Common.{◌∙◌, ap, rules, arith}
use Rattle.std.specs.Int.{bit_at}
use Rattle.std.proofs.lemmas.Bool.{cases_lt}
use Rattle.std.proofs.lemmas.List.{places}
use Rattle.std.proofs.lemmas.Nat.{or_lt, one_shl, pow_below}
use borrow.Rule.Slice.PartMut.{put_mid}
use Rattle.alloctab.specs.Common.{CopiesWords}

-- the word in which a bit is set has 36 bits
pub with_mask_fits : (word place : ℕ) → word < 2 ^ 36 → place < 36 → bit_or word (1 * 2 ^ (35 - place) % 2 ^ 64)
    < 2 ^ 36
with_mask_fits word place fits inside =
    let mask = one_shl (35 - place) 64 (omega arith) in
    let few = pow_below (35 - place) 36 (omega arith) in
    or_lt 36 word (1 * 2 ^ (35 - place) % 2 ^ 64) fits (omega arith)

module _ (a k : ℕ) (xs ys : List ℕ) (room : a + k ≤ length xs) (long : length ys ≡ k) where
  pub length-placed : length (put_mid a k xs ys) ≡ length xs
  length-placed = search (rules, places)

  pub placed_before : (w : ℕ) → w < a → get_or (put_mid a k xs ys) w 0 ≡ get_or xs w 0
  placed_before w before = search (rules, places)

  pub placed_in : (w : ℕ) → a ≤ w → w < a + k → get_or (put_mid a k xs ys) w 0 ≡ get_or ys (w - a) 0
  placed_in w from below = search (rules, places)

  pub placed_behind : (w : ℕ) → a + k ≤ w → get_or (put_mid a k xs ys) w 0 ≡ get_or xs w 0
  placed_behind w from = search (rules, places)

pub copies_words : (words all part : List ℕ) (i from size : ℕ) → from ≡ 128 * i → size ≡ 128 → 128 * (i + 1)
    ≤ length all
    → length words ≡ 128 → part ≡ words → CopiesWords words i all (put_mid from size all part)
copies_words words all part i from size at few room long is =
    let whole = ap length is ∙ long ∙ sym few in
    record {
      long = length-placed from size all part (omega arith) whole;
      copied = λ n here.
          ap (λ (w : ℕ). bit_at w (35 - n % 36)) (placed_in from size all part (omega arith) whole (n / 36)
          (omega arith)
          (omega arith) ∙ ap (λ (l : List ℕ). get_or l (n / 36 - from) 0) is)
          ∙ ap (λ (k : ℕ). bit_at (get_or words k 0) (35 - n % 36)) (omega arith);
      others = λ n apart. ap (λ (w : ℕ). bit_at w (35 - n % 36)) (⊎_elim
          (λ before. placed_before from size all part (omega arith) whole (n / 36) before)
          (λ behind. placed_behind from size all part (omega arith) whole (n / 36) (omega arith))
          (cases_lt (n / 36) from));
    }
