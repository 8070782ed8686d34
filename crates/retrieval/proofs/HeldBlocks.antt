-- Blocks that are held once more or once less: how often they are held, and how many uses there are.
use Rattle.std.proofs.Common.{◌≡◌, ⊎_elim, ℕ, zero, suc, ◌+◌, ◌-◌, ◌<◌, ◌≤◌, List, [], ◌∷◌, length, refl, sym, ◌∙◌}
use Rattle.std.proofs.Common.{ap, subst, arith}
use Rattle.std.specs.Prelude.{slice_index, slice_set}
use Rattle.std.specs.List.{AllByRecursion}
use Rattle.std.proofs.lemmas.Bool.{cases_eq}
use Rattle.std.proofs.lemmas.Bool.Decides.{nat_tests}
use Rattle.std.proofs.lemmas.List.{get_or-set_other}
use Rattle.std.proofs.Math.ListN.{length-set}
use Rattle.spec_image.specs.Common.{sum_below, InSpace, times, space_start}
use Rattle.changeset.specs.Common.{times_head, times_tail}
use Rattle.alloctab.specs.Common.{TableState, IsTable, IsFree, bit, holds, with_held, space, used, used_in_space}
use Rattle.alloctab.specs.Common.{uses, holds-with_held_same, holds-with_held_other, sound-with_held, sum_but_one}
use Rattle.retrieval.specs.Common.{IsOwn, IsFixed}
use Rattle.retrieval.proofs.TakenBlocks.{free_in_space}
use Rattle.retrieval.proofs.Parts.{all_at, times_at}

-- How often a number is in a list of which one place changes.

pub times_set : (m : ℕ) (xs : List ℕ) (i y : ℕ) → i < length xs
    → times m (slice_set xs i y) + times m (slice_index xs i ∷ []) ≡ times m xs + times m (y ∷ [])
times_set m [] i y below = absurd (omega arith)
times_set m (x ∷ xs) zero y below = omega arith
times_set m (x ∷ xs) (suc i) y below = let rest = times_set m xs i y (omega arith) in omega arith

-- if it is there once, it is at one place
pub alone_at : (n : ℕ) (xs : List ℕ) (i j : ℕ) → times n xs ≡ 1 → i < length xs → j < length xs → slice_index xs i ≡ n
    → (j ≡ i → ⊥) → slice_index xs j ≡ n → ⊥
alone_at n xs i j once below below' here other there =
    let a = times_set n xs i (suc n) below in
    let b = times_head n (slice_index xs i) [] (sym here) in
    let c = times_tail n (suc n) [] (λ e. absurd (omega arith)) in
    let d = times_there n (slice_set xs i (suc n)) j (let l = length-set xs i (suc n) in
    omega arith) (get_or-set_other xs i j (suc n) 0 other ∙ there) in
    omega arith
  where
    times_there : (m : ℕ) (ys : List ℕ) (k : ℕ) → k < length ys → slice_index ys k ≡ m → 0 < times m ys
    times_there m [] k inside is = absurd (omega arith)
    times_there m (y ∷ ys) zero inside is = let e = times_head m y ys (sym is) in omega arith
    times_there m (y ∷ ys) (suc k) inside is = let e = times_there m ys k (omega arith) is in omega arith

-- One block that is held once more, or once less.

pub holds_taken : (t : TableState) (n m : ℕ) → IsTable t → n < t.size
    → holds (with_held t n (holds t n + 1)) m ≡ holds t m + times m (n ∷ [])
holds_taken t n m sound inside = ⊎_elim
    (λ (is : m ≡ n). let a = ap (holds (with_held t n (holds t n + 1))) is in
    let b = holds-with_held_same t n (holds t n + 1) sound inside in let e = ap (holds t) is in
    let f = times_head m n [] is in omega arith)
    (λ (other : m ≡ n → ⊥). let a = holds-with_held_other t n m (holds t n + 1) other in
    let f = times_tail m n [] other in omega arith)
    (cases_eq m n)

pub holds_given : (t : TableState) (n m : ℕ) → IsTable t → n < t.size → 0 < holds t n
    → holds (with_held t n (holds t n - 1)) m + times m (n ∷ []) ≡ holds t m
holds_given t n m sound inside some = ⊎_elim
    (λ (is : m ≡ n). let a = ap (holds (with_held t n (holds t n - 1))) is in
    let b = holds-with_held_same t n (holds t n - 1) sound inside in let e = ap (holds t) is in
    let f = times_head m n [] is in omega arith)
    (λ (other : m ≡ n → ⊥). let a = holds-with_held_other t n m (holds t n - 1) other in
    let f = times_tail m n [] other in omega arith)
    (cases_eq m n)

-- Uses.

pub uses-with_held : (t : TableState) (n count : ℕ) → IsTable t → space_start t.size ≤ n → n < t.size
    → uses (with_held t n count) + holds t n ≡ uses t + count
uses-with_held t n count sound from inside =
    let start = space_start t.size in
    let i : ℕ = n - start in
    let at : start + (n - start) ≡ n = omega arith in
    let t' = with_held t n count in
    let sums = sum_but_one (λ k. bit t (start + k) + holds t (start + k)) (λ k. bit t' (start + k)
    + holds t' (start + k)) (space t.size) (n - start) (omega arith)
    (λ j other. let e = holds-with_held_other t n (start + j) count (λ (e : start + j ≡ n). other (omega arith)) in
    ap (λ (h : ℕ). bit t (start + j) + h) e) in
    let old = ap (holds t) at in
    let new = ap (holds t') at in
    let bits = ap (bit t) at in
    let same = holds-with_held_same t n count sound inside in
    omega arith

used_le : (t : TableState) (n : ℕ) → used t n ≤ bit t n + holds t n
used_le t n = grind (arith, nat_tests)

pub sum_le : (f g : ℕ → ℕ) (k : ℕ) → ((j : ℕ) → f j ≤ g j) → sum_below f k ≤ sum_below g k
sum_le f g zero each = omega arith
sum_le f g (suc k) each = let a = each k in let b = sum_le f g k each in omega arith

-- A block that is used is counted at least once.
pub used_le_uses : (t : TableState) → used_in_space t ≤ uses t
used_le_uses t = sum_le (λ k. used t (space_start t.size + k)) (λ k. bit t (space_start t.size + k)
    + holds t (space_start t.size + k)) (space t.size) (λ j. used_le t (space_start t.size + j))

-- A block of a list that is held for this list alone.
pub held_once : (t : TableState) (xs : List ℕ) (i o : ℕ) → i < length xs → o ≡ slice_index xs i
    → ((m : ℕ) → times m xs ≤ holds t m) → holds t o ≡ 1 → times o xs ≡ 1
held_once t xs i o below is held one =
    let a = subst (λ (z : ℕ). 0 < times z xs) (sym is) (times_at xs i below) in
    let b = held o in
    omega arith

-- A free block in place of one of a list.
pub record IsSwapped (t t' : TableState) (xs : List ℕ) (i n : ℕ) : Type 0 where
  pub held : (m : ℕ) → holds t' m + times m xs ≡ holds t m + times m (slice_set xs i n)
  pub used : uses t' ≡ uses t
  pub alone : times n (slice_set xs i n) ≡ 1
  pub own : IsOwn t' (slice_set xs i n) n

module _ (t t1 t2 : TableState) (xs : List ℕ) (i n o : ℕ) (sound : IsTable t) (fixed : IsFixed t) (below : i
    < length xs) (inside : AllByRecursion (InSpace t.size) xs)
    (held : (m : ℕ) → times m xs ≤ holds t m) (is : o ≡ slice_index xs i) (small : n < t.size) (free : IsFree t n)
    (taken : t1 ≡ with_held t n (holds t n + 1)) where
  pub still_held : 0 < holds t1 o
  still_held =
      let a = subst (λ (z : ℕ). 0 < times z xs) (sym is) (times_at xs i below) in
      let b = held o in
      let c = ap (λ (u : TableState). holds u o) taken ∙ holds_taken t n o sound small in
      omega arith

  pub swapped : t2 ≡ with_held t1 o (holds t1 o - 1) → IsSwapped t t2 xs i n
  swapped given = record {
    held = all_held;
    used =
        let a = ap uses taken in
        let b = uses-with_held t n (holds t n + 1) sound (free_in_space t n fixed free) small in
        let c = ap uses given in
        let d = uses-with_held t1 o (holds t1 o - 1) sound1 from1 small1 in
        let e = still_held in
        omega arith;
    alone = once;
    own = record {
      clear = ap (λ (u : TableState). bit u n) given ∙ ap (λ (u : TableState). bit u n) taken ∙ free.clear;
      alone = let a = all_held n in let b = none in let c = free.unheld in omega arith;
    };
  }
    where
      sound1 : IsTable t1
      sound1 = subst IsTable (sym taken) (sound-with_held t n (holds t n + 1) sound)

      there : InSpace t.size o
      there = subst (InSpace t.size) (sym is) (all_at (InSpace t.size) xs i inside below)

      size1 : t1.size ≡ t.size
      size1 = ap (λ (u : TableState). u.size) taken

      small1 : o < t1.size
      small1 = let a = there.below in let b = size1 in omega arith

      from1 : space_start t1.size ≤ o
      from1 = subst (λ (s : ℕ). space_start s ≤ o) (sym size1) there.from

      none : times n xs ≡ 0
      none = let a = held n in let b = free.unheld in omega arith

      other : n ≡ o → ⊥
      other e = let a = ap (λ (z : ℕ). times z xs) e in
          let b = subst (λ (z : ℕ). 0 < times z xs) (sym is) (times_at xs i below) in let c = none in omega arith

      all_held : (m : ℕ) → holds t2 m + times m xs ≡ holds t m + times m (slice_set xs i n)
      all_held m =
          let a = ap (λ (u : TableState). holds u m) taken ∙ holds_taken t n m sound small in
          let b = ap (λ (u : TableState). holds u m) given in
          let c = holds_given t1 o m sound1 small1 still_held in
          let d = times_set m xs i n below in
          let e = ap (λ (z : ℕ). times m (z ∷ [])) is in
          omega arith

      once : times n (slice_set xs i n) ≡ 1
      once =
          let a = times_set n xs i n below in
          let b = ap (λ (z : ℕ). times n (z ∷ [])) is in
          let c = times_tail n o [] other in
          let d = times_head n n [] refl in
          let e = none in
          omega arith
