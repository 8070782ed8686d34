-- What the changes of a table do to its words.
use Rattle.std.specs.Prelude.{◌≡◌, ℕ, zero, suc, ◌+◌, ◌-◌, ◌/◌, ◌<◌, ◌≤◌, ◌==◌, if◌then◌else◌, Bool, true, false}
use Rattle.std.specs.Prelude.{List, [], ◌∷◌, length, replicate}
use Rattle.std.proofs.Common.{refl, sym, ◌∙◌, ap, arith, ⊎_elim}
use Rattle.std.proofs.lemmas.Bool.{cases_eq}
use Rattle.std.proofs.lemmas.Bool.Decides.{nat_tests}
use Rattle.std.proofs.lemmas.List.{get_or-set_same, get_or-set_other, length-replicate}
use Rattle.std.proofs.Math.ListN.{length-set}
use Rattle.spec_image.specs.Common.{times, table_blocks, space_start, sum_below}
use Rattle.changeset.specs.Common.{times_head, times_tail}
use Rattle.alloctab.specs.Lists.{digit, digit_at, flag_at}
use Rattle.alloctab.specs.TableState.{TableState, IsTable, IsFree, bit, holds, IsChanged, space, used, used_in_space}
use Rattle.alloctab.specs.TableState.{changed_blocks, with_bit, with_held}

-- A bit that is set or cleared.

pub bit-with_bit_same : (t : TableState) (n : ℕ) (set : Bool) → IsTable t → n < t.size
    → bit (with_bit t n set) n ≡ digit set
bit-with_bit_same t n set sound inside = ap digit (get_or-set_same t.bits n set false (omega (arith, sound.bits_are)))

pub bit-with_bit_other : (t : TableState) (n m : ℕ) (set : Bool) → (m ≡ n → ⊥) → bit (with_bit t n set) m ≡ bit t m
bit-with_bit_other t n m set other = ap digit (get_or-set_other t.bits n m set false other)

-- A block that is taken is in use once more, and one that is freed once less.

pub bit-taken : (t : TableState) (n : ℕ) → IsTable t → n < t.size → bit t n ≡ 0 → (m : ℕ)
    → bit (with_bit t n true) m ≡ bit t m + times m (n ∷ [])
bit-taken t n sound inside clear m = ⊎_elim
    (λ is. let here = ap (bit (with_bit t n true)) is ∙ bit-with_bit_same t n true sound inside in
    let was = ap (bit t) is in let one = times_head m n [] is in omega arith)
    (λ other. let there = bit-with_bit_other t n m true other in let none = times_tail m n [] other in
    omega arith) (cases_eq m n)

pub bit-freed : (t : TableState) (n : ℕ) → IsTable t → n < t.size → bit t n ≡ 1 → (m : ℕ)
    → bit (with_bit t n false) m + times m (n ∷ []) ≡ bit t m
bit-freed t n sound inside used m = ⊎_elim
    (λ is. let here = ap (bit (with_bit t n false)) is ∙ bit-with_bit_same t n false sound inside in
    let was = ap (bit t) is in let one = times_head m n [] is in omega arith)
    (λ other. let there = bit-with_bit_other t n m false other in let none = times_tail m n [] other in
    omega arith) (cases_eq m n)

pub changed-with_bit_same : (t : TableState) (n : ℕ) (set : Bool) → IsTable t → n < t.size
    → IsChanged (with_bit t n set) (n / 4608)
changed-with_bit_same t n set sound inside = get_or-set_same t.changed (n / 4608) true false
    (omega (arith, sound.changed_are))

pub changed-with_bit_other : (t : TableState) (n i : ℕ) (set : Bool) → (i ≡ n / 4608 → ⊥)
    → flag_at (with_bit t n set).changed i ≡ flag_at t.changed i
changed-with_bit_other t n i set other = get_or-set_other t.changed (n / 4608) i true false other

pub sound-with_bit : (t : TableState) (n : ℕ) (set : Bool) → IsTable t → IsTable (with_bit t n set)
sound-with_bit t n set sound = record {
  volume = sound.volume;
  bits_are = length-set t.bits n set ∙ sound.bits_are;
  held_are = sound.held_are;
  changed_are = length-set t.changed (n / 4608) true ∙ sound.changed_are;
}

-- A block that is held or released.

pub holds-with_held_same : (t : TableState) (n count : ℕ) → IsTable t → n < t.size
    → holds (with_held t n count) n ≡ count
holds-with_held_same t n count sound inside = get_or-set_same t.held n count 0 (omega (arith, sound.held_are))

pub holds-with_held_other : (t : TableState) (n m count : ℕ) → (m ≡ n → ⊥) → holds (with_held t n count) m ≡ holds t m
holds-with_held_other t n m count other = get_or-set_other t.held n m count 0 other

pub sound-with_held : (t : TableState) (n count : ℕ) → IsTable t → IsTable (with_held t n count)
sound-with_held t n count sound = record {
  volume = sound.volume;
  bits_are = sound.bits_are;
  held_are = length-set t.held n count ∙ sound.held_are;
  changed_are = sound.changed_are;
}

-- What is booked, and what is put.

pub sound-booked : (t : TableState) (n : ℕ) → IsTable t → IsTable (record t { booked = n })
sound-booked t n sound = record {
  volume = sound.volume;
  bits_are = sound.bits_are;
  held_are = sound.held_are;
  changed_are = sound.changed_are;
}

pub sound-unchanged : (t : TableState) → IsTable t
    → IsTable (record t { changed = replicate (table_blocks t.size) false })
sound-unchanged t sound = record {
  volume = sound.volume;
  bits_are = sound.bits_are;
  held_are = sound.held_are;
  changed_are = length-replicate (table_blocks t.size) false;
}

-- Counts.

few_flags : (flags : List Bool) (k : ℕ) → sum_below (digit_at flags) k ≤ k
few_flags flags zero = omega arith
few_flags flags (suc k) = few (flag_at flags k) refl (few_flags flags k)
  where
    few : (flag : Bool) → flag_at flags k ≡ flag → sum_below (digit_at flags) k ≤ k
        → digit (flag_at flags k) + sum_below (digit_at flags) k ≤ suc k
    few true is rest = let e = ap digit is in omega arith
    few false is rest = let e = ap digit is in omega arith

-- No more blocks are changed than the table has, and these are 29 at most.
pub changed_blocks-le : (t : TableState) → IsTable t → changed_blocks t ≤ table_blocks t.size
changed_blocks-le t sound = let few = few_flags t.changed (length t.changed) in omega (arith, sound.changed_are)

pub changed_blocks-le-most : (t : TableState) → IsTable t → changed_blocks t ≤ 29
changed_blocks-le-most t sound = let few = changed_blocks-le t sound in let large = sound.volume.large in omega arith

used_same : (s t : TableState) (m : ℕ) → bit s m ≡ bit t m → holds s m ≡ holds t m → used s m ≡ used t m
used_same s t m bits counts = ap (λ (b : ℕ). if b + holds s m == 0 then 0 else 1) bits
    ∙ ap (λ (h : ℕ). if bit t m + h == 0 then 0 else 1) counts

pub sum_same : (f g : ℕ → ℕ) (k : ℕ) → ((j : ℕ) → j < k → g j ≡ f j) → sum_below g k ≡ sum_below f k
sum_same f g zero same = refl
sum_same f g (suc k) same = let e = same k (omega arith) in
    let rest = sum_same f g k (λ j below. same j (omega arith)) in omega arith

pub sum_but_one : (f g : ℕ → ℕ) (k i : ℕ) → i < k → ((j : ℕ) → (j ≡ i → ⊥) → g j ≡ f j)
    → sum_below g k + f i ≡ sum_below f k + g i
sum_but_one f g zero i below same = absurd (omega arith)
sum_but_one f g (suc k) i below same = ⊎_elim
    (λ is. let a = ap f is in let b = ap g is in
    let rest = sum_same f g k (λ j before. same j (λ e. absurd (omega arith))) in omega arith)
    (λ other. let e = same k (λ is. other (sym is)) in let rest = sum_but_one f g k i (omega arith) same in
    omega arith) (cases_eq i k)

-- If the tables differ in one block of the free space, the counts differ by that block.
used_in_space_but_one : (s t : TableState) (n : ℕ) → s.size ≡ t.size → space_start t.size ≤ n → n < t.size
    → ((m : ℕ) → (m ≡ n → ⊥) → used s m ≡ used t m) → used_in_space s + used t n ≡ used_in_space t + used s n
used_in_space_but_one s t n size from inside same =
    let start = space_start t.size in
    let i = n - start in
    let at : start + i ≡ n = omega arith in
    let sums = sum_but_one (λ k. used t (start + k)) (λ k. used s (start + k)) (space t.size) i (omega arith)
    (λ j other. same (start + j) (λ e. other (omega arith))) in
    let moved : used_in_space s ≡ sum_below (λ k. used s (start + k)) (space t.size) = ap
    (λ (z : ℕ). sum_below (λ k. used s (space_start z + k)) (space z)) size in
    let old = ap (used t) at in
    let new = ap (used s) at in
    omega arith

pub used_in_space-with_held : (t : TableState) (n count : ℕ) → space_start t.size ≤ n → n < t.size
    → used_in_space (with_held t n count) + used t n ≡ used_in_space t + used (with_held t n count) n
used_in_space-with_held t n count from inside =
    used_in_space_but_one (with_held t n count) t n refl from inside
    (λ m other. used_same (with_held t n count) t m refl (holds-with_held_other t n m count other))

pub used-free : (t : TableState) (n : ℕ) → IsFree t n → used t n ≡ 0
used-free t n free = let clear = free.clear in let unheld = free.unheld in grind (arith, nat_tests)

pub used-not_free : (t : TableState) (n : ℕ) → 0 < bit t n + holds t n → used t n ≡ 1
used-not_free t n some = grind (arith, nat_tests)
