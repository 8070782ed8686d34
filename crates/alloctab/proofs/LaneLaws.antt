-- The bits that are clear in two words, and in eight at a time.
use Rattle.std.proofs.Common.{◌≡◌, ⊎_elim, ℕ, zero, suc, ◌+◌, ◌*◌, ◌-◌, ◌/◌, ◌%◌, ◌^◌, ◌<◌, ◌≤◌, max, Bool, true}
use Rattle.std.proofs.Common.{false, List, [], ◌∷◌, length, get_or, map, replicate, cond, eqb, not, refl, sym, ◌∙◌}
use Rattle.std.proofs.Common.{ap, subst, add-suc, add-zero, zero-add, pow_mono, ne_eqb, arith}
use Rattle.std.specs.Int.{bit_at}
use Rattle.std.specs.Int.Bits.{bit_or, bit_xor}
use Rattle.std.specs.Int.Count.{ones, count_leading_zeros, count_trailing_zeros}
use Rattle.std.proofs.lemmas.Bool.{cases_lt}
use Rattle.std.proofs.lemmas.Bool.Decides.{nat_tests}
use Rattle.std.proofs.lemmas.Nat.{or_lt, xor_lt, leading_top, ones-le}
use Rattle.std.proofs.lemmas.Nat.Bits.{bit_at_or, bit_at_xor, bit_at_ones, bit_at-lt, bit_at-zero, bit_at_above}
use Rattle.std.proofs.lemmas.Nat.Bits.{bit_at-suc, bit_at_lowest}
use Rattle.std.specs.List.{prefix_len}
use Rattle.std.proofs.lemmas.List.{take_all, get_or_read}
use Rattle.std.proofs.lemmas.Simd.{first_set_mask_l, run_in_chunk_le, run_in_chunk_fails, run_in_chunk_stops}
use Rattle.std.proofs.lemmas.Simd.{get_or-zip2, get_or-replicate, length-zip2}
use Rattle.std.proofs.Math.Nat.{two-pow-succ}
use lib.Count.{ones_step}
use lib.Lanes.{zip2, fold_l, sum_l, chunk, mask_l}
use Rattle.spec_image.specs.Common.{sum_below}
use Rattle.alloctab.specs.Common.{word_bit, clear_bit, clear_word, clear_at, IsFirstPlace}

-- The bits of a word of clear bits.

pub clear_word_fits : (a b : ℕ) → a < 2 ^ 36 → b < 2 ^ 36 → clear_word a b < 2 ^ 36
clear_word_fits a b p q = xor_lt 36 (2 ^ 36 - 1) (bit_or a b) (omega arith) (or_lt 36 a b p q)

either : (a b : ℕ) → a < 2 → b < 2 → (1 + max a b) % 2 ≡ cond (eqb (a + b) 0) 1 0
either zero zero p q = refl
either zero (suc zero) p q = refl
either (suc zero) zero p q = refl
either (suc zero) (suc zero) p q = refl
either zero (suc (suc b)) p q = absurd (omega arith)
either (suc zero) (suc (suc b)) p q = absurd (omega arith)
either (suc (suc a)) b p q = absurd (omega arith)

-- a bit of it is set if it is clear in both words
pub bit_at_clear : (a b i : ℕ) → i < 36 → bit_at (clear_word a b) i ≡ cond (eqb (bit_at a i + bit_at b i) 0) 1 0
bit_at_clear a b i below =
    bit_at_xor (2 ^ 36 - 1) (bit_or a b) i
    ∙ ap (λ (n : ℕ). (n + bit_at (bit_or a b) i) % 2) (bit_at_ones 36 i below)
    ∙ ap (λ (n : ℕ). (1 + n) % 2) (bit_at_or a b i)
    ∙ either (bit_at a i) (bit_at b i) (bit_at-lt a i) (bit_at-lt b i)

pub zero_from_one : (n : ℕ) → cond {A = ℕ} (eqb n 0) 1 0 ≡ 1 → n ≡ 0
zero_from_one n is = grind (arith, nat_tests)

one_from_zero : (n : ℕ) → cond {A = ℕ} (eqb n 0) 1 0 ≡ 0 → n ≡ 0 → ⊥
one_from_zero n is = grind (arith, nat_tests)

none_clear : (a b i : ℕ) → i < 36 → bit_at (clear_word a b) i ≡ 0 → bit_at a i + bit_at b i ≡ 0 → ⊥
none_clear a b i below is = one_from_zero (bit_at a i + bit_at b i) (sym (bit_at_clear a b i below) ∙ is)

one_clear : (a b i : ℕ) → i < 36 → bit_at (clear_word a b) i ≡ 1 → bit_at a i + bit_at b i ≡ 0
one_clear a b i below is = zero_from_one (bit_at a i + bit_at b i) (sym (bit_at_clear a b i below) ∙ is)

-- if the word is zero, each bit is set in one of the two
pub none_in_word : (a b i : ℕ) → i < 36 → clear_word a b ≡ 0 → bit_at a i + bit_at b i ≡ 0 → ⊥
none_in_word a b i below is = none_clear a b i below (ap (λ (n : ℕ). bit_at n i) is ∙ bit_at-zero i)

-- The first place of a clear bit.

highest_set : (x j : ℕ) → 2 ^ j ≤ x → x < 2 ^ suc j → bit_at x j ≡ 1
highest_set x j from below =
    let e = two-pow-succ j in
    let one : x / 2 ^ j ≡ 1 = div_one x (2 ^ j) from (omega arith) in
    ap (λ (n : ℕ). n % 2) one
  where
    div_one : (x k : ℕ) → k ≤ x → x < 2 * k → x / k ≡ 1
    div_one x k from below = grind arith

pub leading_place : (x : ℕ) → (x ≡ 0 → ⊥) → x < 2 ^ 36 → (j : ℕ) × (count_leading_zeros 64 x + suc j ≡ 64) × (j < 36)
    × (bit_at x j ≡ 1) × ((i : ℕ) → j < i → bit_at x i ≡ 0)
leading_place x some fits =
    let (j, count, from, below) = leading_top 64 x (omega arith) (omega arith) in (
      j,
      count,
      ⊎_elim (λ few. few) (λ many. absurd (let e : 2 ^ 36 ≤ 2 ^ j = pow_mono many in omega arith))
          (cases_lt j 36),
      highest_set x j from below,
      λ i above. bit_at_above x (suc j) i below (omega arith),
    )

pub first_place : (a b zeros : ℕ) → (clear_word a b ≡ 0 → ⊥) → clear_word a b < 2 ^ 36
    → zeros ≡ count_leading_zeros 64 (clear_word a b) → (28 ≤ zeros) × IsFirstPlace a b (zeros - 28)
first_place a b zeros some fits is =
    let (j, count, inside, one, above) = leading_place (clear_word a b) some fits in
    let place : 35 - (zeros - 28) ≡ j = omega arith in
    let clear : bit_at a j + bit_at b j ≡ 0 = one_clear a b j inside one in (
      omega arith,
      record {
        inside = omega arith;
        clear = (ap (bit_at a) place ∙ omega arith, ap (bit_at b) place ∙ omega arith);
        first = λ p before. none_clear a b (35 - p) (omega arith) (above (35 - p) (omega arith));
      },
    )

-- Lanes.

pub lanes_long : (m : ℕ) (xs ys : List ℕ) → length xs ≡ 8 → length ys ≡ 8
    → length (zip2 bit_xor (replicate 8 m) (zip2 bit_or xs ys)) ≡ 8
lanes_long m xs ys p q =
    let e = length-zip2 bit_or xs ys (p ∙ sym q) ∙ p in
    length-zip2 bit_xor (replicate 8 m) (zip2 bit_or xs ys) (sym e)

pub clear_lane : (xs ys : List ℕ) (k a b : ℕ) → length xs ≡ 8 → length ys ≡ 8 → k < 8 → get_or xs k 0 ≡ a
    → get_or ys k 0 ≡ b
    → get_or (zip2 bit_xor (replicate 8 (2 ^ 36 - 1)) (zip2 bit_or xs ys)) k 0 ≡ clear_word a b
clear_lane xs ys k a b p q below at_a at_b =
    let e = length-zip2 bit_or xs ys (p ∙ sym q) ∙ p in
    get_or-zip2 bit_xor (replicate 8 (2 ^ 36 - 1)) (zip2 bit_or xs ys) k 0 0 0 below (omega arith)
    ∙ ap (λ (n : ℕ). bit_xor n (get_or (zip2 bit_or xs ys) k 0)) (get_or-replicate 8 k (2 ^ 36 - 1) 0 below)
    ∙ ap (bit_xor (2 ^ 36 - 1)) (get_or-zip2 bit_or xs ys k 0 0 0 (omega arith) (omega arith)
    ∙ ap (λ (n : ℕ). bit_or n (get_or ys k 0)) at_a ∙ ap (bit_or a) at_b)

-- How many lanes are zero before the first that isn't.

abbrev some_bit : ℕ → Bool
some_bit n = not (eqb n 0)

abbrev pub lanes_before : List ℕ → ℕ → Type 0
lanes_before xs r = r ≡ prefix_len (λ n. not (some_bit n)) (chunk 0 8 xs)

whole_chunk : (xs : List ℕ) → length xs ≡ 8 → chunk 0 8 xs ≡ xs
whole_chunk xs long = take_all 8 xs (omega arith)

marked : (xs : List ℕ) (marks : ℕ) → length xs ≡ 8 → marks ≡ mask_l (map some_bit xs)
    → cond (eqb marks 0) 8 (count_trailing_zeros 64 marks) ≡ prefix_len (λ n. not (some_bit n)) (chunk 0 8 xs)
marked xs marks long is =
    ap (λ (m : ℕ). cond (eqb m 0) 8 (count_trailing_zeros 64 m)) is
    ∙ first_set_mask_l some_bit xs 8 long (omega arith)
    ∙ ap (prefix_len (λ n. not (some_bit n))) (sym (whole_chunk xs long))

pub all_before : (xs : List ℕ) (marks : ℕ) → length xs ≡ 8 → marks ≡ mask_l (map some_bit xs) → marks ≡ 0
    → lanes_before xs 8
all_before xs marks long is none =
    ap (λ (m : ℕ). cond (eqb m 0) 8 (count_trailing_zeros 64 m)) (sym none) ∙ marked xs marks long is

pub some_before : (xs : List ℕ) (marks : ℕ) → length xs ≡ 8 → marks ≡ mask_l (map some_bit xs) → (marks ≡ 0 → ⊥)
    → lanes_before xs (count_trailing_zeros 64 marks)
some_before xs marks long is some =
    ap (λ (b : Bool). cond b 8 (count_trailing_zeros 64 marks)) (sym (ne_eqb marks 0 some)) ∙ marked xs marks long is

module _ (xs : List ℕ) (r : ℕ) (long : length xs ≡ 8) (is : lanes_before xs r) where
  room : 0 + 8 ≤ length xs
  room = omega arith

  pub few_before : r ≤ 8
  few_before = run_in_chunk_le some_bit xs 0 8 r 0 room is

  pub none_before : (k : ℕ) → k < r → get_or xs k 0 ≡ 0
  none_before k below = zero_or (get_or xs k 0) (run_in_chunk_fails some_bit xs 0 8 r 0 room is k (omega arith)
      (omega arith))
    where
      zero_or : (n : ℕ) → some_bit n ≡ false → n ≡ 0
      zero_or n e = grind (arith, nat_tests)

  pub one_there : r < 8 → get_or xs r 0 ≡ 0 → ⊥
  one_there below = some_or (get_or xs r 0)
      (ap (λ (n : ℕ). some_bit (get_or xs n 0)) (sym (zero-add r))
      ∙ run_in_chunk_stops some_bit xs 0 8 r 0 room is below)
    where
      some_or : (n : ℕ) → some_bit n ≡ true → n ≡ 0 → ⊥
      some_or n e = grind (arith, nat_tests)

-- How many bits are clear.

sum_split : (f : ℕ → ℕ) (a k : ℕ) → sum_below f (a + k) ≡ sum_below f a + sum_below (λ n. f (a + n)) k
sum_split f a zero = let e = ap (sum_below f) (add-zero a) in omega arith
sum_split f a (suc k) = let e = ap (sum_below f) (add-suc a k) in let rest = sum_split f a k in omega arith

sum_of_places : (f : ℕ → ℕ) (k x : ℕ) → x < 2 ^ k → ((p q : ℕ) → p + q + 1 ≡ k → f p ≡ bit_at x q)
    → sum_below f k ≡ ones x
sum_of_places f zero x few each = let none : x ≡ 0 = omega arith in let e = ap ones none in
    let f = ones-le 0 0 (omega arith) in omega arith
sum_of_places f (suc k) x few each =
    let e = two-pow-succ k in
    let rest = sum_of_places f k (x / 2) (omega arith) (λ p q is. each p (suc q) (omega arith) ∙ bit_at-suc x q) in
    let last = each k 0 (omega arith) ∙ bit_at_lowest x in
    let step = ones_step x in omega arith

place_of : (set held : List ℕ) (w p q k : ℕ) → k ≡ 36 → p + q + 1 ≡ k
    → clear_bit set held (36 * w + p) ≡ bit_at (clear_at set held w) q
place_of set held w p q k is place =
    let word : (36 * w + p) / 36 ≡ w = omega arith in
    let bit : 35 - (36 * w + p) % 36 ≡ q = omega arith in
    (λ i. cond (eqb (bit_at (get_or set (word i) 0) (bit i) + bit_at (get_or held (word i) 0) (bit i)) 0) 1 0)
    ∙ sym (bit_at_clear (get_or set w 0) (get_or held w 0) q (omega arith))

pub clear_few : (set held : List ℕ) (n : ℕ) → sum_below (clear_bit set held) n ≤ n
clear_few set held zero = omega arith
clear_few set held (suc n) = let rest = clear_few set held n in
    let one = at_most (word_bit set n + word_bit held n) in omega arith
  where
    at_most : (m : ℕ) → cond {A = ℕ} (eqb m 0) 1 0 ≤ 1
    at_most m = grind (arith, nat_tests)

pub word_counted : (set held : List ℕ) (w k : ℕ) → k ≡ 36 → clear_at set held w < 2 ^ k
    → sum_below (clear_bit set held) (36 * w) + ones (clear_at set held w)
    ≡ sum_below (clear_bit set held) (36 * (w + 1))
word_counted set held w k is few =
    let parts = sum_split (clear_bit set held) (36 * w) k in
    let here = sum_of_places (λ p. clear_bit set held (36 * w + p)) k (clear_at set held w) few
    (λ p q place. place_of set held w p q k is place) in
    let ends : 36 * w + k ≡ 36 * (w + 1) = omega arith in
    let e = ap (sum_below (clear_bit set held)) ends in omega arith

pub words_counted : (set held xs : List ℕ) (from : ℕ)
    → ((k : ℕ) → k < length xs → get_or xs k 0 ≡ clear_at set held (from + k))
    → ((k : ℕ) → k < length xs → get_or xs k 0 < 2 ^ 36)
    → sum_below (clear_bit set held) (36 * from) + sum_l (map ones xs)
    ≡ sum_below (clear_bit set held) (36 * (from + length xs))
words_counted set held [] from each few =
    let e = ap (λ (n : ℕ). sum_below (clear_bit set held) (36 * n)) (add-zero from) in omega arith
words_counted set held (x ∷ xs) from each few =
    let first : x ≡ clear_at set held from = each 0 (omega arith) ∙ ap (clear_at set held) (omega arith) in
    let one = word_counted set held from 36 refl (let e = few 0 (omega arith) in subst (λ (n : ℕ). n < 2 ^ 36) first e)
    in
    let rest = words_counted set held xs (from + 1)
    (λ k below. each (suc k) (omega arith) ∙ ap (clear_at set held) (omega arith))
    (λ k below. few (suc k) (omega arith)) in
    let set_here = ap ones first in
    let e : from + 1 + length xs ≡ from + suc (length xs) = omega arith in
    let ends = ap (λ (n : ℕ). sum_below (clear_bit set held) (36 * n)) e in
    omega arith

ones_few : (x : ℕ) → x < 2 ^ 36 → ones x ≤ 36
ones_few x few = ones-le 36 x few

pub sum_few : (xs : List ℕ) → ((k : ℕ) → k < length xs → get_or xs k 0 < 2 ^ 36) → sum_l (map ones xs) ≤ 36 * length xs
sum_few [] few = omega arith
sum_few (x ∷ xs) few = let one = ones_few x (few 0 (omega arith)) in
    let rest = sum_few xs (λ k below. few (suc k) (omega arith)) in omega arith

-- The sum of the lanes. Counts are widened and sums may wrap, but this one doesn't.
pub sum_fits : (plus : ℕ → ℕ → ℕ) (wide count : ℕ → ℕ) → ((a b : ℕ) → a + b < 2 ^ 64 → plus a b ≡ a + b)
    → ((n : ℕ) → n < 2 ^ 32 → wide n ≡ n) → ((n : ℕ) → count n ≡ ones n) → (xs : List ℕ) (s : ℕ)
    → ((k : ℕ) → k < length xs → get_or xs k 0 < 2 ^ 36) → s + 36 * length xs < 2 ^ 64
    → fold_l plus s (map wide (map count xs)) ≡ s + sum_l (map ones xs)
sum_fits plus wide count adds widens counts [] s few room = omega arith
sum_fits plus wide count adds widens counts (x ∷ xs) s few room =
    let one = ones_few x (few 0 (omega arith)) in
    let here : wide (count x) ≡ ones x = ap wide (counts x) ∙ widens (ones x) (omega arith) in
    let whole : plus s (wide (count x)) ≡ s + ones x = ap (plus s) here ∙ adds s (ones x) (omega arith) in
    ap (λ (n : ℕ). fold_l plus n (map wide (map count xs))) whole
    ∙ sum_fits plus wide count adds widens counts xs (s + ones x) (λ k below. few (suc k) (omega arith)) (omega arith)
    ∙ omega arith

-- The word that was read at a place.

pub word_read : (set held : List ℕ) (place a b : ℕ) → length set ≡ length held → place < length set
    → a ≡ get_or set place a → b ≡ get_or held place b → clear_word a b ≡ clear_at set held place
word_read set held place a b same inside p q =
    ap (λ (n : ℕ). clear_word n b) (get_or_read set place a inside p 0)
    ∙ ap (clear_word (get_or set place 0)) (get_or_read held place b (omega arith) q 0)

pub count_more : (set held : List ℕ) (from place count a b r : ℕ) → length set ≡ length held → place < length set
    → a ≡ get_or set place a → b ≡ get_or held place b → r ≡ clear_word a b → r < 2 ^ 36 → count ≤ 36 * place
    → sum_below (clear_bit set held) (36 * from) + count ≡ sum_below (clear_bit set held) (36 * place)
    → (count + ones r ≤ 36 * (place + 1))
    × (sum_below (clear_bit set held) (36 * from) + (count + ones r)
    ≡ sum_below (clear_bit set held) (36 * (place + 1)))
count_more set held from place count a b r same inside p q is fits few so_far =
    let word = is ∙ word_read set held place a b same inside p q in
    let one = ones_few r fits in
    let here = word_counted set held place 36 refl (subst (λ (n : ℕ). n < 2 ^ 36) word fits) in
    let e = ap ones word in
    (omega arith, omega arith)
