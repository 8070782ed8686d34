-- The words of a table block spell its bits.
use Rattle.std.proofs.Common.{◌≡◌, ◌⊎◌, ⊎_elim, ℕ, zero, suc, ◌+◌, ◌*◌, ◌-◌, ◌/◌, ◌%◌, ◌^◌, ◌<◌, ◌≤◌, Bool, true}
use Rattle.std.proofs.Common.{false, List, [], ◌∷◌, ◌++◌, length, get_or, add-one, refl, sym, ◌∙◌, ap, arith}
use Rattle.std.proofs.lemmas.List.{length_push, get_or_append_left, get_or_push}
use Rattle.std.proofs.lemmas.Nat.{div-mul-add}
use Rattle.std.proofs.Math.Nat.{pow-succ', two-pow-succ, div-div-eq-div-mul}
use Rattle.std.specs.Int.{bit_at}
use Rattle.std.proofs.lemmas.Nat.Bits.{bit_at-suc, bit_at_lowest}
use Rattle.spec_image.specs.Common.{bit_of}
use Rattle.alloctab.specs.Common.{digit, word_bit, number_of, words_of, table_words}

pub digit_few : (b : Bool) → digit b ≤ 1
digit_few true = omega arith
digit_few false = omega arith

pub number_none : (bits : ℕ → ℕ) (from : ℕ) → 0 ≡ number_of bits from 0
unfolding number_of
number_none bits from = refl

pub number_more : (bits : ℕ → ℕ) (from k : ℕ)
    → number_of bits from (k + 1) ≡ number_of bits from k * 2 + bits (from + k)
unfolding number_of
number_more bits from k = ap (number_of bits from) (add-one k)

pub number_below : (bits : ℕ → ℕ) → ((n : ℕ) → bits n ≤ 1) → (from k : ℕ) → number_of bits from k < 2 ^ k
number_below bits few from zero = omega (arith, number_none bits from)
number_below bits few from (suc k) =
    let e = two-pow-succ k in
    let one = add-one k in
    let more = ap (number_of bits from) (sym one) ∙ number_more bits from k in
    omega (arith, number_below bits few from k, few (from + k))

-- one more bit after the others
shifted : (bits : ℕ → ℕ) (v bit r : ℕ) → bit ≡ bits r → bit ≤ 1 → ((j k : ℕ) → j + k + 1 ≡ r → (v / 2 ^ k) % 2 ≡ bits j)
    → (j k : ℕ) → j + k + 1 ≡ r + 1 → ((v * 2 + bit) / 2 ^ k) % 2 ≡ bits j
shifted bits v bit r here few spells j zero e =
    let same : j ≡ r = omega arith in
    let one : (v * 2 + bit) / 2 ^ 0 ≡ v * 2 + bit = omega arith in
    ap (λ (n : ℕ). n % 2) one ∙ omega arith ∙ here ∙ ap bits (sym same)
shifted bits v bit r here few spells j (suc k) e =
    ap (λ (n : ℕ). (v * 2 + bit) / n % 2) (pow-succ' 2 k)
    ∙ ap (λ (n : ℕ). n % 2) (sym (div-div-eq-div-mul (v * 2 + bit) 2 (2 ^ k))
    ∙ ap (λ (n : ℕ). n / 2 ^ k) (div-mul-add v 2 bit (omega arith))) ∙ spells j k (omega arith)

pub number_spells : (bits : ℕ → ℕ) → ((n : ℕ) → bits n ≤ 1) → (from r j k : ℕ) → j + k + 1 ≡ r
    → (number_of bits from r / 2 ^ k) % 2 ≡ bits (from + j)
number_spells bits few from zero j k e = absurd (omega arith)
number_spells bits few from (suc r) j k e =
    let more = ap (number_of bits from) (sym (add-one r)) ∙ number_more bits from r in
    ap (λ (v : ℕ). (v / 2 ^ k) % 2) more
    ∙ shifted (λ n. bits (from + n)) (number_of bits from r) (bits (from + r)) r refl (few (from + r))
    (number_spells bits few from r) j k (e ∙ sym (add-one r))

pub words_none : (bits : ℕ → ℕ) (from : ℕ) → [] ≡ words_of bits from 0
unfolding words_of
words_none bits from = refl

pub words_more : (bits : ℕ → ℕ) (from k : ℕ) → words_of bits from (k + 1) ≡ words_of bits from k
    ++ number_of bits (from + 36 * k) 36 ∷ []
unfolding words_of
words_more bits from k = ap (words_of bits from) (add-one k)

pub table_words_are : (bits : ℕ → ℕ) (i k : ℕ) → k ≡ 128 → words_of bits (4608 * i) k ≡ table_words bits i
unfolding table_words
table_words_are bits i k e = ap (words_of bits (4608 * i)) e

pub words_long : (bits : ℕ → ℕ) (from k : ℕ) → length (words_of bits from k) ≡ k
words_long bits from zero = ap length (sym (words_none bits from))
words_long bits from (suc k) =
    ap (λ (n : ℕ). length (words_of bits from n)) (sym (add-one k)) ∙ ap length (words_more bits from k)
    ∙ length_push (words_of bits from k) (number_of bits (from + 36 * k) 36)
    ∙ omega (arith, words_long bits from k)

below_or_last : (w k : ℕ) → w < suc k → (w < k) ⊎ (w ≡ k)
below_or_last w k h = grind arith

pub word_at : (bits : ℕ → ℕ) (from k w : ℕ) → w < k → get_or (words_of bits from k) w 0
    ≡ number_of bits (from + 36 * w) 36
word_at bits from zero w h = absurd (omega arith)
word_at bits from (suc k) w h =
    let long = words_long bits from k in
    let last = number_of bits (from + 36 * k) 36 in
    ap (λ (n : ℕ). get_or (words_of bits from n) w 0) (sym (add-one k))
    ∙ ap (λ (l : List ℕ). get_or l w 0) (words_more bits from k)
    ∙ ⊎_elim
    (λ below. get_or_append_left (words_of bits from k) (last ∷ []) 0 w (omega arith) ∙ word_at bits from k w below)
    (λ same. get_or_push (words_of bits from k) last 0 w (omega arith)
    ∙ ap (λ (n : ℕ). number_of bits (from + 36 * n) 36) (sym same)) (below_or_last w k h)

-- The words of a table block have its bits.
pub table_words_spell : (bits : ℕ → ℕ) → ((n : ℕ) → bits n ≤ 1) → (i n : ℕ) → n / 4608 ≡ i
    → bit_of (table_words bits i) n ≡ bits n
table_words_spell bits few i n here =
    let w = n / 36 % 128 in
    let word : get_or (table_words bits i) w 0
    ≡ number_of bits (4608 * i + 36 * w) 36 = ap (λ (l : List ℕ). get_or l w 0) (sym (table_words_are bits i 128 refl))
    ∙ word_at bits (4608 * i) 128 w (omega arith) in
    let place : 4608 * i + 36 * w + n % 36 ≡ n = omega arith in
    ap (λ (v : ℕ). (v / 2 ^ (35 - n % 36)) % 2) word
    ∙ number_spells bits few (4608 * i + 36 * w) 36 (n % 36) (35 - n % 36) (omega arith) ∙ ap bits place

-- the number that the bits of a word make is the word
number_of_bits : (bits : ℕ → ℕ) (from r v : ℕ) → v < 2 ^ r → ((j k : ℕ) → j + k + 1 ≡ r → bits (from + j) ≡ bit_at v k)
    → number_of bits from r ≡ v
number_of_bits bits from zero v few each = sym (number_none bits from) ∙ omega arith
number_of_bits bits from (suc r) v few each =
    let e = two-pow-succ r in
    let more = ap (number_of bits from) (sym (add-one r)) ∙ number_more bits from r in
    let rest = number_of_bits bits from r (v / 2) (omega arith)
    (λ j k place. each j (suc k) (omega arith) ∙ bit_at-suc v k) in
    let last = each r 0 (omega arith) ∙ bit_at_lowest v in
    omega arith

pub number_of_word : (words : List ℕ) (from w k : ℕ) → k ≡ 36 → from ≡ 36 * w → get_or words w 0 < 2 ^ k
    → number_of (word_bit words) from k ≡ get_or words w 0
number_of_word words from w k is at few = number_of_bits (word_bit words) from k (get_or words w 0) few
    (λ j p place. (λ i. bit_at (get_or words (word j p place i) 0) (bit j p place i)))
  where
    word : (j p : ℕ) → j + p + 1 ≡ k → (from + j) / 36 ≡ w
    word j p place = omega arith

    bit : (j p : ℕ) → j + p + 1 ≡ k → 35 - (from + j) % 36 ≡ p
    bit j p place = omega arith
