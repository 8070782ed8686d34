-- The words that a table is stored in, and the table that they represent.
use Rattle.std.proofs.Common.{◌≡◌, ⊎_elim, ℕ, zero, suc, ◌+◌, ◌*◌, ◌-◌, ◌/◌, ◌<◌, ◌≤◌, Bool, true, false, List}
use Rattle.std.proofs.Common.{length, get_or, set, cond, eqb, refl, sym, ◌∙◌, ap, arith, eq-eqb, ne_eqb, ◌%◌, take}
use Rattle.std.proofs.Common.{drop, replicate, Some, None, ltb, le-ltb}
use Rattle.std.specs.Int.{bit_at}
use Rattle.std.proofs.lemmas.Bool.{cases_eq, cases_lt, cond-false}
use Rattle.std.proofs.lemmas.Bool.Decides.{nat_tests}
use Rattle.std.proofs.lemmas.List.{get_or_past, length-set, take_rest, get_or-set_same, get_or-set_other, get_or-drop}
use Rattle.std.proofs.lemmas.List.{length-drop, length-replicate, get_or-replicate}
use Rattle.std.proofs.lemmas.Nat.Bits.{bit_at-zero}
use Rattle.blockdisk.specs.Common.{Contents}
use Rattle.spec_image.specs.Common.{IsVolumeSize, table_blocks, space_start, fixed}
use Rattle.alloctab.specs.Common.{digit, digit_at, word_bit, flags, IsClearFrom, PutsBit, TableState, IsTable, IsFree}
use Rattle.alloctab.specs.Common.{bit, holds, with_bit, with_held, holds-with_held_same, holds-with_held_other}
use Rattle.alloctab.specs.Common.{table_of, IsTableInMemory, clear_bit, wanted_bit, IsTableOf}
use Rattle.alloctab.proofs.LaneLaws.{zero_from_one}
use Rattle.alloctab.proofs.LowestLaws.{IsLowest}
use Rattle.alloctab.proofs.FlagLaws.{length-flags, bit_is, flags_put}

clear_put : (size n : ℕ) (flag : Bool) (old new : List ℕ) → n < size → PutsBit n flag old new → IsClearFrom size old
    → IsClearFrom size new
clear_put size n flag old new inside puts clear m past = puts.others m (λ same. absurd (omega arith)) ∙ clear m past

abbrev one_if_held : ℕ → ℕ
one_if_held count = cond (eqb count 0) 0 1

held_digit : (count : ℕ) (flag : Bool) → (flag ≡ true → 0 < count) → (flag ≡ false → count ≡ 0) → digit flag
    ≡ one_if_held count
held_digit zero true some none = absurd (let e = some refl in omega arith)
held_digit zero false some none = refl
held_digit (suc count) true some none = sym (ap (λ (b : Bool). cond {A = ℕ} b 0 1)
    (ne_eqb (suc count) 0 (λ e. absurd (omega arith))))
held_digit (suc count) false some none = absurd (let e = none refl in omega arith)

module _ (size : ℕ) (words held counts : List ℕ) (changed : List Bool) (hint : ℕ)
    (kept : IsTableInMemory size words held counts changed hint) where
  pub sound : (booked : ℕ) → IsTable (table_of size words counts booked changed)
  sound booked = record {
    volume = kept.volume;
    bits_are = length-flags (word_bit words) size;
    held_are = kept.counts_long;
    changed_are = kept.changed_long;
  }

  pub bits_are : (booked : ℕ) → word_bit words ≡ bit (table_of size words counts booked changed)
  bits_are booked = λ i n. sym (bit_is size words kept.past n) i

  -- free blocks

  pub is_free : (booked n : ℕ) → n < size → word_bit words n + word_bit held n ≡ 0
      → IsFree (table_of size words counts booked changed) n
  is_free booked n inside none = record {
    clear = bit_is size words kept.past n ∙ omega arith;
    unheld = no_count (get_or counts n 0) (sym (kept.in_step n inside) ∙ omega arith);
  }
    where
      no_count : (count : ℕ) → one_if_held count ≡ 0 → count ≡ 0
      no_count count e = grind (arith, nat_tests)

  pub not_free : (booked n : ℕ) → n < size → (word_bit words n + word_bit held n ≡ 0 → ⊥)
      → IsFree (table_of size words counts booked changed) n → ⊥
  not_free booked n inside some free = some (let clear = bit_is size words kept.past n in let e = free.clear in
      let unheld : word_bit held n ≡ 0 = kept.in_step n inside ∙ ap one_if_held free.unheld in omega arith)

  -- what the calls preserve

  pub kept_count : (n count : ℕ) (flag : Bool) (new : List ℕ) (hint' : ℕ) → n < size → PutsBit n flag held new
      → (flag ≡ true → 0 < count) → (flag ≡ false → count ≡ 0) → hint' ≤ hint
      → (flag ≡ false → word_bit words n ≡ 0 → hint' ≤ n)
      → IsTableInMemory size words new (set counts n count) changed hint'
  kept_count n count flag new hint' inside puts some none lower free = record {
    volume = kept.volume;
    set_long = kept.set_long;
    past = kept.past;
    held_long = puts.long ∙ kept.held_long;
    counts_long = length-set counts n count ∙ kept.counts_long;
    in_step = λ m below. ⊎_elim
        (λ here. ap (word_bit new) here ∙ puts.same ∙ held_digit count flag some none
        ∙ ap one_if_held (sym (get_or-set_same counts n count 0 (omega (arith, kept.counts_long)))
        ∙ ap (λ (k : ℕ). get_or (set counts n count) k 0) (sym here)))
        (λ other. puts.others m other ∙ kept.in_step m below
        ∙ ap one_if_held (sym (get_or-set_other counts n m count 0 other))) (cases_eq m n);
    changed_long = kept.changed_long;
    hint_inside = omega (arith, kept.hint_inside);
    none_below = λ m below. ⊎_elim
        (λ here none. held_there m here below flag refl none)
        (λ other none. kept.none_below m (omega arith) (let e = puts.others m other in omega arith)) (cases_eq m n);
  }
    where
      held_there : (m : ℕ) → m ≡ n → m < hint' → (b : Bool) → flag ≡ b → word_bit words m + word_bit new m ≡ 0 → ⊥
      held_there m here below true is none = absurd (let e = ap (word_bit new) here ∙ puts.same
          ∙ ap digit is in omega arith)
      held_there m here below false is none = absurd (let e = ap (word_bit words) here in
          let f = free is (omega arith) in omega arith)

  pub kept_bit : (n : ℕ) (flag : Bool) (new : List ℕ) (hint' k : ℕ) → n < size → PutsBit n flag words new
      → hint' ≤ hint → (flag ≡ false → get_or counts n 0 ≡ 0 → hint' ≤ n)
      → IsTableInMemory size new held counts (set changed k true) hint'
  kept_bit n flag new hint' k inside puts lower free = record {
    volume = kept.volume;
    set_long = puts.long ∙ kept.set_long;
    past = clear_put size n flag words new inside puts kept.past;
    held_long = kept.held_long;
    counts_long = kept.counts_long;
    in_step = kept.in_step;
    changed_long = length-set changed k true ∙ kept.changed_long;
    hint_inside = omega (arith, kept.hint_inside);
    none_below = λ m below. ⊎_elim
        (λ here none. used_there m here below flag refl none)
        (λ other none. kept.none_below m (omega arith) (let e = puts.others m other in omega arith)) (cases_eq m n);
  }
    where
      used_there : (m : ℕ) → m ≡ n → m < hint' → (b : Bool) → flag ≡ b → word_bit new m + word_bit held m ≡ 0 → ⊥
      used_there m here below true is none = absurd (let e = ap (word_bit new) here ∙ puts.same
          ∙ ap digit is in omega arith)
      used_there m here below false is none = by_count (get_or counts n 0) refl
        where
          by_count : (count : ℕ) → get_or counts n 0 ≡ count → ⊥
          by_count zero e = absurd (let f = free is e in omega arith)
          by_count (suc count) e = absurd (let f = ap (word_bit held) here ∙ kept.in_step n inside ∙ ap one_if_held e
              ∙ ap (λ (b : Bool). cond {A = ℕ} b 0 1) (ne_eqb (suc count) 0 (λ same. absurd (omega arith))) in omega
              arith)

  -- the hint after a search, if no block below it is free
  pub kept_raised : (booked hint' : ℕ) → hint' ≤ size
      → ((m : ℕ) → m < hint' → IsFree (table_of size words counts booked changed) m → ⊥)
      → IsTableInMemory size words held counts changed hint'
  kept_raised booked hint' inside none = record {
    volume = kept.volume;
    set_long = kept.set_long;
    past = kept.past;
    held_long = kept.held_long;
    counts_long = kept.counts_long;
    in_step = kept.in_step;
    changed_long = kept.changed_long;
    hint_inside = inside;
    none_below = λ m below clear. none m below (is_free booked m (omega arith) clear);
  }

  abbrev with_bits : ℕ → ℕ → List Bool → TableState
  with_bits booked n bits = record {
    size = size;
    bits = bits;
    held = counts;
    booked = booked;
    changed = set changed (n / 4608) true;
  }

  -- the table after a bit was put
  pub with_bit_is : (booked n : ℕ) (flag : Bool) (new : List ℕ) (t : TableState) → n < size → PutsBit n flag words new
      → table_of size words counts booked changed ≡ t
      → table_of size new counts booked (set changed (n / 4608) true) ≡ with_bit t n flag
  with_bit_is booked n flag new t inside puts is =
      ap (with_bits booked n) (flags_put size n flag words new inside puts)
      ∙ ap (λ (s : TableState). with_bit s n flag) is

  -- what a search finds if it begins at the word of the hint

  module _ (booked first : ℕ) (set' held' : List ℕ) (begins : first ≡ hint / 36) (set_is : set' ≡ drop first words)
      (held_is : held' ≡ drop first held) where
    long : length set' ≡ length words - first
    long = ap length set_is ∙ length-drop first words

    in_words : (list rest : List ℕ) (m : ℕ) → rest ≡ drop first list → word_bit rest m ≡ word_bit list (36 * first + m)
    in_words list rest m is =
        let word : first + m / 36 ≡ (36 * first + m) / 36 = omega arith in
        let place : m % 36 ≡ (36 * first + m) % 36 = omega arith in
        ap (λ (l : List ℕ). bit_at (get_or l (m / 36) 0) (35 - m % 36)) is
        ∙ ap (λ (w : ℕ). bit_at w (35 - m % 36)) (get_or-drop first list (m / 36) 0)
        ∙ (λ i. bit_at (get_or list (word i) 0) (35 - place i))

    not_clear : (m : ℕ) → 36 * first ≤ m → (clear_bit set' held' (m - 36 * first) ≡ 1 → ⊥)
        → word_bit words m + word_bit held m ≡ 0 → ⊥
    not_clear m from other none = other (
        let at : 36 * first + (m - 36 * first) ≡ m = omega arith in
        let a = in_words words set' (m - 36 * first) set_is ∙ ap (word_bit words) at in
        let b = in_words held held' (m - 36 * first) held_is ∙ ap (word_bit held) at in
        ap (λ (b : Bool). cond {A = ℕ} b 1 0)
        (eq-eqb (word_bit set' (m - 36 * first) + word_bit held' (m - 36 * first)) 0 (omega arith)))

    before_hint : (m : ℕ) → m < 36 * first → m < size → IsFree (table_of size words counts booked changed) m → ⊥
    before_hint m before inside = not_free booked m inside (kept.none_below m (omega arith))

    pub found_inside : (n : ℕ) → IsLowest (clear_bit set' held') (36 * length set') (Some n) → first * 36 + n
        < 36 * length words
    found_inside n found = let a = found.0 in let b = long in let c = kept.set_long in let d = kept.hint_inside in
        let e = kept.volume.small in omega arith

    pub found_free : (n : ℕ) → IsLowest (clear_bit set' held') (36 * length set') (Some n) → first * 36 + n < size
        → IsFree (table_of size words counts booked changed) (first * 36 + n)
    found_free n found inside = is_free booked (first * 36 + n) inside (
        let at : 36 * first + n ≡ first * 36 + n = omega arith in
        let a = in_words words set' n set_is ∙ ap (word_bit words) at in
        let b = in_words held held' n held_is ∙ ap (word_bit held) at in
        let c = zero_from_one (word_bit set' n + word_bit held' n) found.1 in
        omega arith)

    pub none_earlier : (n : ℕ) → IsLowest (clear_bit set' held') (36 * length set') (Some n) → (m : ℕ)
        → m < first * 36 + n → m < size → IsFree (table_of size words counts booked changed) m → ⊥
    none_earlier n found m before inside = ⊎_elim (λ early. before_hint m early inside)
        (λ late. not_free booked m inside (not_clear m late (found.2 (m - 36 * first) (omega arith))))
        (cases_lt m (36 * first))

    pub none_found : IsLowest (clear_bit set' held') (36 * length set') None → (m : ℕ)
        → m < size → IsFree (table_of size words counts booked changed) m → ⊥
    none_found found m inside = ⊎_elim (λ early. before_hint m early inside)
        (λ late. not_free booked m inside (not_clear m late (found (m - 36 * first)
        (let b = long in let c = kept.set_long in let d = kept.hint_inside in omega arith))))
        (cases_lt m (36 * first))

-- After a block was taken as the lowest, none up to it is free.
pub taken_not_free : (t : TableState) (n : ℕ) → IsTable t → n < t.size → ((m : ℕ) → m < n → IsFree t m → ⊥) → (m : ℕ)
    → m < n + 1 → IsFree (with_held t n (holds t n + 1)) m → ⊥
taken_not_free t n sound inside lowest m below free = ⊎_elim
    (λ here. absurd (let e = holds-with_held_same t n (holds t n + 1) sound inside in
    let f = ap (holds (with_held t n (holds t n + 1))) here in let g = free.unheld in omega arith))
    (λ other. lowest m (omega arith) (record {
      clear = free.clear;
      unheld = sym (holds-with_held_other t n m (holds t n + 1) other) ∙ free.unheld;
    })) (cases_eq m n)

-- A table as it is loaded.

pub zeros : (k n : ℕ) → word_bit (replicate k 0) n ≡ 0
zeros k n = ap (λ (w : ℕ). bit_at w (35 - n % 36)) (none k (n / 36)) ∙ bit_at-zero (35 - n % 36)
  where
    none : (k i : ℕ) → let list : List ℕ = replicate k 0 in get_or list i 0 ≡ 0
    none zero i = refl
    none (suc k) zero = refl
    none (suc k) (suc i) = none k i

pub kept_loaded : (size : ℕ) (words held counts : List ℕ) (changed : List Bool) (long : ℕ) → IsVolumeSize size
    → long ≡ table_blocks size * 128 → length words ≡ long → IsClearFrom size words → held ≡ replicate long 0
    → counts ≡ replicate size 0 → changed ≡ replicate (table_blocks size) false
    → IsTableInMemory size words held counts changed 0
kept_loaded size words held counts changed long volume is set_long clear held_is counts_are changed_is = record {
  volume = volume;
  set_long = omega arith;
  past = clear;
  held_long = ap length held_is ∙ length-replicate long 0 ∙ omega arith;
  counts_long = ap length counts_are ∙ length-replicate size 0;
  in_step = λ n inside. ap (λ (l : List ℕ). word_bit l n) held_is ∙ zeros long n
      ∙ ap one_if_held (sym (ap (λ (l : List ℕ). get_or l n 0) counts_are ∙ get_or-replicate size n 0 0 inside));
  changed_long = ap length changed_is ∙ length-replicate (table_blocks size) false;
  hint_inside = omega arith;
  none_below = λ n below. absurd (omega arith);
}

pub rest_is : (xs list : List ℕ) (first : ℕ) → xs ≡ list → take (length xs - first) (drop first xs) ≡ drop first list
rest_is xs list first is = take_rest xs first ∙ ap (drop first) is

pub table_read : (size : ℕ) (words : List ℕ) (c : Contents) → IsClearFrom size words → IsTableOf size c (word_bit words)
    → IsTableOf size c (digit_at (flags (word_bit words) size))
table_read size words c clear is = record {
  bits_are = λ n. bit_is size words clear n ∙ is.bits_are n;
  undamaged = is.undamaged;
}

-- past the end of the disk, each bit is as required
pub right_past : (t : TableState) (reached : List Bool) (n : ℕ) → IsTable t → length reached ≡ t.size → t.size ≤ n
    → bit t n ≡ wanted_bit t.size reached n
right_past t reached n sound long past =
    let none = ap digit (get_or_past t.bits n false (omega (arith, sound.bits_are))) in
    let unmarked = ap digit (get_or_past reached n false (omega arith)) in
    let beyond : fixed t.size n ≡ 0 = cond-false (ltb n (space_start t.size)) 1 0 (le-ltb n (space_start t.size)
    (let small = sound.volume.small in omega arith)) in
    omega arith
