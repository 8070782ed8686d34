-- The bits of words as truth values.
use Rattle.std.proofs.Common.{◌≡◌, ⊎_elim, ℕ, zero, suc, ◌-◌, ◌/◌, ◌<◌, Bool, true, false, List, [], ◌∷◌, ◌++◌}
use Rattle.std.proofs.Common.{length, get_or, set, eqb, refl, sym, ◌∙◌, ap, arith, eq-eqb, ne_eqb, ◌%◌}
use Rattle.std.proofs.lemmas.Bool.{cases_eq, cases_lt}
use Rattle.std.proofs.lemmas.List.{length_push, get_or_append_left, get_or_push, get_or_past, ext_get_or, length-set}
use Rattle.std.proofs.lemmas.List.{get_or-set_same, get_or-set_other}
use Rattle.std.proofs.lemmas.Nat.Bits.{bit_at-lt}
use Rattle.alloctab.specs.Common.{digit, flag_at, digit_at, word_bit, flags, IsClearFrom, PutsBit}

-- Truth values of bits.

flags_none : (bits : ℕ → ℕ) → flags bits 0 ≡ []
unfolding flags
flags_none bits = refl

flags_more : (bits : ℕ → ℕ) (k : ℕ) → flags bits (suc k) ≡ flags bits k ++ eqb (bits k) 1 ∷ []
unfolding flags
flags_more bits k = refl

pub length-flags : (bits : ℕ → ℕ) (k : ℕ) → length (flags bits k) ≡ k
length-flags bits zero = ap length (flags_none bits)
length-flags bits (suc k) = ap length (flags_more bits k) ∙ length_push (flags bits k) (eqb (bits k) 1)
    ∙ omega (arith, length-flags bits k)

pub flag-flags : (bits : ℕ → ℕ) (k n : ℕ) → n < k → flag_at (flags bits k) n ≡ eqb (bits n) 1
flag-flags bits zero n below = absurd (omega arith)
flag-flags bits (suc k) n below =
    let long = length-flags bits k in
    ap (λ (l : List Bool). get_or l n false) (flags_more bits k) ∙ ⊎_elim
    (λ last. get_or_push (flags bits k) (eqb (bits k) 1) false n (omega arith)
    ∙ ap (λ (m : ℕ). eqb (bits m) 1) (sym last))
    (λ other. get_or_append_left (flags bits k) (eqb (bits k) 1 ∷ []) false n (omega arith)
    ∙ flag-flags bits k n (omega arith)) (cases_eq n k)

digit-eqb : (b : ℕ) → b < 2 → digit (eqb b 1) ≡ b
digit-eqb zero few = refl
digit-eqb (suc zero) few = refl
digit-eqb (suc (suc b)) few = absurd (omega arith)

pub no_digit : (flag : Bool) → digit flag ≡ 0 → flag ≡ false
no_digit true is = absurd (omega arith)
no_digit false is = refl

eqb-digit : (b : ℕ) (flag : Bool) → b ≡ digit flag → eqb b 1 ≡ flag
eqb-digit b true is = eq-eqb b 1 is
eqb-digit b false is = ne_eqb b 1 (λ one. absurd (omega arith))

pub word_bit-lt : (words : List ℕ) (n : ℕ) → word_bit words n < 2
word_bit-lt words n = bit_at-lt (get_or words (n / 36) 0) (35 - n % 36)

-- the bits of the table are those of the words
pub bit_is : (size : ℕ) (words : List ℕ) → IsClearFrom size words → (n : ℕ) → digit_at (flags (word_bit words) size) n
    ≡ word_bit words n
bit_is size words clear n = ⊎_elim
    (λ below. ap digit (flag-flags (word_bit words) size n below) ∙ digit-eqb (word_bit words n) (word_bit-lt words n))
    (λ past. ap digit (get_or_past (flags (word_bit words) size) n false
    (omega (arith, length-flags (word_bit words) size)))
    ∙ sym (clear n past)) (cases_lt n size)

-- A bit that is put.

pub flags_put : (size n : ℕ) (flag : Bool) (old new : List ℕ) → n < size → PutsBit n flag old new
    → flags (word_bit new) size ≡ set (flags (word_bit old) size) n flag
flags_put size n flag old new inside puts =
    let long = length-flags (word_bit new) size in
    let was = length-flags (word_bit old) size in
    let now = length-set (flags (word_bit old) size) n flag in
    ext_get_or false (flags (word_bit new) size) (set (flags (word_bit old) size) n flag) (omega arith)
    (λ m below. flag-flags (word_bit new) size m (omega arith) ∙ ⊎_elim
    (λ here. ap (λ (k : ℕ). eqb (word_bit new k) 1) here ∙ eqb-digit (word_bit new n) flag puts.same
    ∙ sym (get_or-set_same (flags (word_bit old) size) n flag false (omega arith))
    ∙ ap (λ (k : ℕ). get_or (set (flags (word_bit old) size) n flag) k false) (sym here))
    (λ other. ap (λ (b : ℕ). eqb b 1) (puts.others m other) ∙ sym (flag-flags (word_bit old) size m (omega arith))
    ∙ sym (get_or-set_other (flags (word_bit old) size) n m flag false other)) (cases_eq m n))
