-- Blocks that are taken from a table one after the other.
use Rattle.std.proofs.Common.{◌≡◌, ◌⊎◌, ⊎_elim, inl, inr, ℕ, zero, suc, ◌+◌, ◌<◌, ◌≤◌, List, [], ◌∷◌, ◌++◌, length}
use Rattle.std.proofs.Common.{refl, sym, ◌∙◌, ap, subst, arith}
use Rattle.std.specs.List.{AllByRecursion}
use Rattle.std.proofs.lemmas.Bool.{cases_eq}
use Rattle.spec_image.specs.Common.{times, space_start, InSpace}
use Rattle.changeset.specs.Common.{times_tail}
use Rattle.alloctab.specs.Common.{TableState, IsTable, IsFree, holds, with_held, space, used_in_space}
use Rattle.alloctab.specs.Common.{holds-with_held_same, holds-with_held_other, sound-with_held}
use Rattle.alloctab.specs.Common.{used_in_space-with_held, used-free, used-not_free}
use Rattle.retrieval.specs.Common.{Takes, AreApart, IsFixed}

abbrev taken : TableState → ℕ → TableState
taken t n = with_held t n (holds t n + 1)

-- a free block lies after the fixed regions
pub free_in_space : (t : TableState) (n : ℕ) → IsFixed t → IsFree t n → space_start t.size ≤ n
free_in_space t n fixed free = ⊎_elim (λ x. x) (λ below. absurd (let a = fixed n below in let b = free.clear in
    omega arith)) (cases n (space_start t.size))
  where
    cases : (n m : ℕ) → (m ≤ n) ⊎ (n < m)
    cases n zero = inl (omega arith)
    cases zero (suc m) = inr (omega arith)
    cases (suc n) (suc m) = ⊎_elim (λ a. inl (omega arith)) (λ a. inr (omega arith)) (cases n m)

-- What one taken block changes.
pub free_before : (t : TableState) (m n : ℕ) → IsTable t → m < t.size → IsFree (taken t m) n → (n ≡ m → ⊥) × IsFree t n
free_before t m n sound inside free = by_case (cases_eq n m)
  where
    by_case : (n ≡ m) ⊎ (n ≡ m → ⊥) → (n ≡ m → ⊥) × IsFree t n
    by_case (inl is) = absurd (let a = ap (holds (taken t m)) is in
        let b = holds-with_held_same t m (holds t m + 1) sound inside in let e = free.unheld in omega arith)
    by_case (inr other) = (
      other,
      record { clear = free.clear; unheld = sym (holds-with_held_other t m n (holds t m + 1) other) ∙ free.unheld },
    )

-- one more block is used
pub used_one_more : (t : TableState) (n : ℕ) → IsTable t → IsFixed t → n < t.size → IsFree t n
    → used_in_space (taken t n) ≡ used_in_space t + 1
used_one_more t n sound fixed inside free =
    let sums = used_in_space-with_held t n (holds t n + 1) (free_in_space t n fixed free) inside in
    let none = used-free t n free in
    let same = holds-with_held_same t n (holds t n + 1) sound inside in
    let one = used-not_free (taken t n) n (omega arith) in
    omega arith

-- Blocks that were taken: what stays, and how many are used.
pub record Stays (t t' : TableState) (count : ℕ) : Type 0 where
  pub sound : IsTable t'
  pub fixed : IsFixed t'
  pub size : t'.size ≡ t.size
  pub booked : t'.booked ≡ t.booked
  pub counted : used_in_space t' ≡ used_in_space t + count

pub takes_stays : (t : TableState) (ns : List ℕ) (t' : TableState) → IsTable t → IsFixed t → Takes t ns t'
    → Stays t t' (length ns)
takes_stays t [] t' sound fixed takes = subst (λ (u : TableState). Stays t u 0) (sym takes)
    (record { sound = sound; fixed = fixed; size = refl; booked = refl; counted = omega arith })
takes_stays t (n ∷ ns) t' sound fixed takes =
    let rest = takes_stays (taken t n) ns t' (sound-with_held t n (holds t n + 1) sound) fixed takes.2 in
    let one = used_one_more t n sound fixed takes.0 takes.1 in
    record {
      sound = rest.sound;
      fixed = rest.fixed;
      size = rest.size;
      booked = rest.booked;
      counted = let e = rest.counted in omega arith;
    }

-- one more
pub takes_more : (t : TableState) (ns : List ℕ) (t' : TableState) (n : ℕ) → Takes t ns t' → n < t'.size
    → IsFree t' n → Takes t (ns ++ n ∷ []) (taken t' n)
takes_more t [] t' n takes inside free = (
  subst (λ (u : TableState). n < u.size) takes inside,
  subst (λ (u : TableState). IsFree u n) takes free,
  ap (λ (u : TableState). taken u n) takes,
)
takes_more t (m ∷ ns) t' n takes inside free = (takes.0, takes.1, takes_more (taken t m) ns t' n takes.2 inside free)

-- What the blocks were.
pub takes_each : (t : TableState) (ns : List ℕ) (t' : TableState) → IsTable t → IsFixed t → Takes t ns t'
    → (n : ℕ) → 0 < times n ns → (n < t.size) × IsFree t n
takes_each t [] t' sound fixed takes n there = absurd (omega arith)
takes_each t (m ∷ ns) t' sound fixed takes n there = ⊎_elim
    (λ is. (let e = takes.0 in omega arith, subst (IsFree t) (sym is) takes.1))
    (λ other.
    let later = takes_each (taken t m) ns t' (sound-with_held t m (holds t m + 1) sound) fixed takes.2 n
    (let e = times_tail n m ns other in omega arith) in
    (later.0, (free_before t m n sound takes.0 later.1).1)) (cases_eq n m)

-- a block that isn't free isn't taken
pub takes_none : (t : TableState) (ns : List ℕ) (t' : TableState) → IsTable t → IsFixed t → Takes t ns t'
    → (n : ℕ) → (IsFree t n → ⊥) → times n ns ≡ 0
takes_none t ns t' sound fixed takes n stuck = by_case (times n ns) refl
  where
    by_case : (k : ℕ) → times n ns ≡ k → times n ns ≡ 0
    by_case zero is = is
    by_case (suc k) is = absurd (stuck (takes_each t ns t' sound fixed takes n (omega arith)).1)

pub takes_apart : (t : TableState) (ns : List ℕ) (t' : TableState) → IsTable t → IsFixed t → Takes t ns t' → AreApart ns
takes_apart t [] t' sound fixed takes = tt
takes_apart t (n ∷ ns) t' sound fixed takes =
    let sound' = sound-with_held t n (holds t n + 1) sound in (
      takes_none (taken t n) ns t' sound' fixed takes.2 n (λ free. (free_before t n n sound takes.0 free).0 refl),
      takes_apart (taken t n) ns t' sound' fixed takes.2,
    )

pub takes_inside : (t : TableState) (ns : List ℕ) (t' : TableState) → Takes t ns t'
    → AllByRecursion (λ n. n < t.size) ns
takes_inside t [] t' takes = tt
takes_inside t (n ∷ ns) t' takes = (takes.0, takes_inside (taken t n) ns t' takes.2)

-- 0 is in a fixed region
pub takes_nonzero : (t : TableState) (ns : List ℕ) (t' : TableState) → IsTable t → IsFixed t → Takes t ns t'
    → times 0 ns ≡ 0
takes_nonzero t ns t' sound fixed takes = takes_none t ns t' sound fixed takes 0
    (λ free. let a = fixed 0 (omega arith) in let b = free.clear in omega arith)

pub room : (t t' : TableState) → t'.booked ≡ t.booked → t'.size ≡ t.size → t.booked ≤ space t.size
    → t'.booked ≤ space t'.size
room t t' booked size few = let e = ap space size in omega arith

-- The first block, and then the others.
module _ (t t' t'' : TableState) (at : ℕ) (sound : IsTable t) (fixed : IsFixed t) (inside : at
    < t.size) (free : IsFree t at) (held : t' ≡ with_held t at (holds t at + 1)) where
  pub fits_after : (count : ℕ) → used_in_space t + (1 + count) ≤ t.booked → used_in_space t' + count ≤ t'.booked
  fits_after count fits = let a = ap used_in_space held in let b = used_one_more t at sound fixed inside free in
      let e = ap (λ (u : TableState). u.booked) held in omega arith

-- what was taken may be written
pub may_be_written : (size : ℕ) (t : TableState) (ns : List ℕ) (t' : TableState) → t.size ≡ size → IsTable t
    → IsFixed t → Takes t ns t' → (n : ℕ) → 0 < times n ns → IsFree t n × InSpace size n
may_be_written size t ns t' is sound fixed takes n there =
    let each = takes_each t ns t' sound fixed takes n there in
    (each.1, subst (λ (s : ℕ). InSpace s n) is (record { from = free_in_space t n fixed each.1; below = each.0 }))

pub later : (n at : ℕ) (ribs : List ℕ) → times n (at ∷ ribs) ≡ 0 → times n ribs ≡ 0
later n at ribs is = omega arith
