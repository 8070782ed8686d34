-- Lists of blocks whose bits are set or cleared, or that are held, one after the other.
use Rattle.std.proofs.Common.{◌≡◌, ⊎_elim, ℕ, ◌+◌, ◌-◌, ◌/◌, ◌<◌, ◌≤◌, ◌^◌, Bool, true, false, List, [], ◌∷◌, ◌++◌}
use Rattle.std.proofs.Common.{length, get_or, slice_set, take, drop, refl, sym, ap, subst, ◌∙◌, arith}
use Rattle.std.proofs.lemmas.Bool.{cases_eq, cases_lt}
use Rattle.std.proofs.lemmas.List.{take_more, take-append-drop, get_or_past}
use Rattle.changeset.specs.Common.{times_head, times_tail}
use Rattle.spec_image.specs.Common.{times}
use Rattle.spec_image.proofs.Common.{times-append}
use Rattle.alloctab.specs.Common.{TableState, IsTable, IsChanged, bit, holds, with_bit, with_held, bit-with_bit_other}
use Rattle.alloctab.specs.Common.{bit-taken, bit-freed, changed-with_bit_same, changed-with_bit_other, sound-with_bit}
use Rattle.alloctab.specs.Common.{sound-with_held, holds-with_held_same, holds-with_held_other}
use Rattle.volume.specs.Common.{Marks, SetsBits, ClearsBits, PutsInUse, put_in_use}
use Rattle.volume.proofs.common.ReleasedBlocks.{held_less}

pub marks_none : (t : TableState) → IsTable t → Marks t t
marks_none t sound = record { sound = sound; size = refl; stays = λ i is. is; moved = λ n still. refl }

pub marks_then : (t u v : TableState) → Marks t u → Marks u v → Marks t v
marks_then t u v first second = record {
  sound = second.sound;
  size = second.size ∙ first.size;
  stays = λ i is. second.stays i (first.stays i is);
  moved = λ n still. second.moved n still ∙ first.moved n (λ is. still (second.stays (n / 4608) is));
}

-- other counts mark nothing
pub marks_counts : (t u : TableState) (held : List ℕ) → Marks t u → IsTable (record u { held = held })
    → Marks t (record u { held = held })
marks_counts t u held marks sound = record {
  sound = sound;
  size = marks.size;
  stays = marks.stays;
  moved = marks.moved;
}

marks_bit : (t : TableState) (n : ℕ) (set : Bool) → IsTable t → n < t.size → Marks t (with_bit t n set)
marks_bit t n set sound inside = record {
  sound = sound-with_bit t n set sound;
  size = refl;
  stays = λ i is. ⊎_elim
      (λ same. subst (IsChanged (with_bit t n set)) (sym same) (changed-with_bit_same t n set sound inside))
      (λ apart. changed-with_bit_other t n i set apart ∙ is) (cases_eq i (n / 4608));
  moved = λ m still. ⊎_elim
      (λ is. absurd (still (subst (λ (j : ℕ). IsChanged (with_bit t n set) (j / 4608)) (sym is)
      (changed-with_bit_same t n set sound inside))))
      (λ other. bit-with_bit_other t n m set other) (cases_eq m n);
}

-- The next block of a list.

module _ (blocks : List ℕ) (i b : ℕ) (below : i < length blocks) (is : b ≡ get_or blocks i 0) where
  pub next_times : (n : ℕ) → times n (take (i + 1) blocks) ≡ times n (take i blocks) + times n (b ∷ [])
  next_times n = ap (times n) (take_more blocks i 0 below ∙ ap (λ (m : ℕ). take i blocks ++ m ∷ []) (sym is))
      ∙ times-append n (take i blocks) (b ∷ [])

  pub next_within : (n : ℕ) → times n (take i blocks) + times n (b ∷ []) ≤ times n blocks
  next_within n =
      let parts : times n blocks ≡ times n (take (i + 1) blocks) + times n (drop (i + 1) blocks) = ap (times n)
      (sym (take-append-drop (i + 1) blocks)) ∙ times-append n (take (i + 1) blocks) (drop (i + 1) blocks) in
      omega (arith, next_times n)

  pub next_there : 0 < times b blocks
  next_there = let one = times_head b b [] refl in omega (arith, next_within b)

  -- its bit is set
  pub sets_next : (t u : TableState) → b < u.size → ((n : ℕ) → bit t n + times n blocks ≤ 1)
      → SetsBits t u (take i blocks) → SetsBits t (with_bit u b true) (take (i + 1) blocks)
  sets_next t u inside clear so_far =
      let marks = so_far.marks in
      let free : bit u b ≡ 0 = let one = times_head b b [] refl in
      omega (arith, so_far.bits b, clear b, next_within b) in
      record {
        marks = marks_then t u (with_bit u b true) marks (marks_bit u b true marks.sound inside);
        held = so_far.held;
        booked = so_far.booked;
        bits = λ n. omega (arith, bit-taken u b marks.sound inside free n, so_far.bits n, next_times n);
      }

  -- its bit is cleared
  pub clears_next : (t u : TableState) → b < u.size → ((n : ℕ) → times n blocks ≤ bit t n) → ((n : ℕ) → bit t n ≤ 1)
      → ClearsBits t u (take i blocks) → ClearsBits t (with_bit u b false) (take (i + 1) blocks)
  clears_next t u inside set few so_far =
      let marks = so_far.marks in
      let used : bit u b ≡ 1 = let one = times_head b b [] refl in
      omega (arith, so_far.bits b, set b, few b, next_within b) in
      record {
        marks = marks_then t u (with_bit u b false) marks (marks_bit u b false marks.sound inside);
        held = so_far.held;
        booked = so_far.booked;
        bits = λ n. omega (arith, bit-freed u b marks.sound inside used n, so_far.bits n, next_times n);
      }

  -- it is held once more
  pub holds_next : (t u : TableState) → IsTable u → b < u.size
      → ((n : ℕ) → holds u n ≡ holds t n + times n (take i blocks)) → (n : ℕ)
      → holds (with_held u b (holds u b + 1)) n ≡ holds t n + times n (take (i + 1) blocks)
  holds_next t u sound inside so_far n = ⊎_elim
      (λ (same : n ≡ b).
      let here : holds (with_held u b (holds u b + 1)) n
      ≡ holds u b + 1 = ap (holds (with_held u b (holds u b + 1))) same
      ∙ holds-with_held_same u b (holds u b + 1) sound inside in
      let was : holds u n ≡ holds u b = ap (holds u) same in
      let one = times_head n b [] same in
      omega (arith, next_times n, so_far n))
      (λ other.
      let here = holds-with_held_other u b n (holds u b + 1) other in
      let none = times_tail n b [] other in
      omega (arith, next_times n, so_far n)) (cases_eq n b)

  pub holds_fit : (t u : TableState) → ((n : ℕ) → holds t n + times n blocks < 2 ^ 32)
      → ((n : ℕ) → holds u n ≡ holds t n + times n (take i blocks)) → holds u b + 1 < 2 ^ 32
  holds_fit t u fits so_far = let one = times_head b b [] refl in omega (arith, fits b, so_far b, next_within b)

-- Blocks that come into use.

-- what is held has a place in the table
pub held_inside : (t : TableState) (n : ℕ) → IsTable t → 0 < holds t n → n < t.size
held_inside t n sound there = ⊎_elim (λ below. below)
    (λ past. absurd (let none = get_or_past t.held n 0 (let long = sound.held_are in omega arith) in omega arith))
    (cases_lt n t.size)

pub puts_in_use_none : (t : TableState) → IsTable t → PutsInUse t t []
puts_in_use_none t sound = record {
  marks = marks_none t sound;
  booked = refl;
  bits = λ n. omega arith;
  held = λ n. omega arith;
}

pub puts_in_use_then : (t u v : TableState) (xs ys : List ℕ) → PutsInUse t u xs → PutsInUse u v ys
    → PutsInUse t v (xs ++ ys)
puts_in_use_then t u v xs ys first second = record {
  marks = marks_then t u v first.marks second.marks;
  booked = second.booked ∙ first.booked;
  bits = λ n. omega (arith, times-append n xs ys, first.bits n, second.bits n);
  held = λ n. omega (arith, times-append n xs ys, first.held n, second.held n);
}

-- one block
pub puts_in_use_one : (t : TableState) (n : ℕ) → IsTable t → n < t.size → bit t n ≡ 0 → 0 < holds t n
    → PutsInUse t (put_in_use t n) (n ∷ [])
puts_in_use_one t n sound inside clear held = record {
  marks = marks_counts t (with_bit t n true) (slice_set t.held n (holds t n - 1)) (marks_bit t n true sound inside)
      (sound-with_held (with_bit t n true) n (holds t n - 1) (sound-with_bit t n true sound));
  booked = refl;
  bits = bit-taken t n sound inside clear;
  held = held_less t.held n held;
}

pub clears_then : (t u v : TableState) (xs ys : List ℕ) → ClearsBits t u xs → ClearsBits u v ys
    → ClearsBits t v (xs ++ ys)
clears_then t u v xs ys first second = record {
  marks = marks_then t u v first.marks second.marks;
  held = second.held ∙ first.held;
  booked = second.booked ∙ first.booked;
  bits = λ n. omega (arith, times-append n xs ys, first.bits n, second.bits n);
}

pub clears_one : (t : TableState) (n : ℕ) → IsTable t → n < t.size → bit t n ≡ 1
    → ClearsBits t (with_bit t n false) (n ∷ [])
clears_one t n sound inside set = record {
  marks = marks_bit t n false sound inside;
  held = refl;
  booked = refl;
  bits = bit-freed t n sound inside set;
}
