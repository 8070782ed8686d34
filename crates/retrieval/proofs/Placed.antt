-- Blocks that are written one after the other, each to a place of its own.
use Rattle.std.proofs.Common.{◌≡◌, ◌⊎◌, ⊎_elim, inl, inr, ℕ, zero, suc, ◌+◌, ◌<◌, ◌≤◌, List, [], ◌∷◌, length, sym}
use Rattle.std.proofs.Common.{◌∙◌, ap, subst, arith}
use Rattle.std.specs.Prelude.{slice_index, slice_set}
use Rattle.std.specs.List.{AllByRecursion}
use Rattle.std.proofs.lemmas.Bool.{cases_eq, cases_lt}
use Rattle.std.proofs.lemmas.List.{get_or-set_same, get_or-set_other}
use Rattle.spec_image.specs.Common.{InSpace, times}
use Rattle.changeset.specs.Common.{times_tail}
use Rattle.alloctab.specs.Common.{TableState, IsFree, bit, holds, space}
use Rattle.retrieval.specs.Common.{IsOwn, AddsFree, KeepsOwn, IsFixed}
use Rattle.retrieval.proofs.HeldBlocks.{times_set}
use Rattle.retrieval.proofs.Parts.{times_at}

-- What stays of a table and a list while blocks are replaced by others.
module _ (t t' : TableState) (same : t' ≡ record t { held = t'.held }) where
  pub bits_same : (n : ℕ) → bit t' n ≡ bit t n
  bits_same n = ap (λ (u : TableState). bit u n) same

  pub size_same : t'.size ≡ t.size
  size_same = ap (λ (u : TableState). u.size) same

  pub booked_same : t'.booked ≡ t.booked
  booked_same = ap (λ (u : TableState). u.booked) same

  pub fixed_on : IsFixed t → IsFixed t'
  fixed_on fixed = subst IsFixed (sym same) fixed

  pub room_on : t.booked ≤ space t.size → t'.booked ≤ space t'.size
  room_on room = subst (λ (u : TableState). u.booked ≤ space u.size) (sym same) room

  pub same_on : (t'' : TableState) → t'' ≡ record t' { held = t''.held } → t'' ≡ record t { held = t''.held }
  same_on t'' next = next ∙ ap (λ (u : TableState). record u { held = t''.held }) same

  module _ (xs xs' : List ℕ) (held : (n : ℕ) → holds t' n + times n xs ≡ holds t n + times n xs') where
    pub held_on : ((n : ℕ) → times n xs ≤ holds t n) → (n : ℕ) → times n xs' ≤ holds t' n
    held_on all n = let a = held n in let b = all n in omega arith

    -- what is own after is own before
    pub own_before : (n : ℕ) → IsOwn t' xs' n → IsOwn t xs n
    own_before n own = record {
      clear = sym (bits_same n) ∙ own.clear;
      alone = let a = held n in let b = own.alone in
          omega arith;
    }

    pub held_again : (t'' : TableState) (xs'' : List ℕ)
        → ((n : ℕ) → holds t'' n + times n xs' ≡ holds t' n + times n xs'') → (n : ℕ)
        → holds t'' n + times n xs ≡ holds t n + times n xs''
    held_again t'' xs'' next n = let a = held n in let b = next n in omega arith

    -- one list after the other
    pub adds_on : (xs'' : List ℕ) → ((n : ℕ) → times n xs ≤ holds t n) → AddsFree t xs xs' → AddsFree t' xs' xs''
        → AddsFree t xs xs''
    adds_on xs'' all first second n = ⊎_elim
        (λ fewer. ⊎_elim (λ old. inl (omega arith)) (λ free. inr (free.0, let once = free.1 in omega arith)) (first n))
        (λ free.
        let a = held n in
        let b = all n in
        let none = free.0.unheld in
        let once = free.1 in
        ⊎_elim
        (λ (some : 0 < times n xs). inl (omega arith))
        (λ new. inr (record { clear = sym (bits_same n) ∙ free.0.clear; unheld = omega arith }, once))
        (cases_lt 0 (times n xs)))
        (second n)

-- one place of a list in the free space
pub inside_set : (size : ℕ) (xs : List ℕ) (i n : ℕ) → AllByRecursion (InSpace size) xs → InSpace size n
    → AllByRecursion (InSpace size) (slice_set xs i n)
inside_set size [] i n all is = tt
inside_set size (x ∷ xs) zero n all is = (is, all.1)
inside_set size (x ∷ xs) (suc i) n all is = (all.0, inside_set size xs i n all.1 is)

-- one place with a block of the old list's own, which is free if it isn't in the list
pub adds_set : (t : TableState) (old xs : List ℕ) (i n : ℕ) → AddsFree t old xs → i < length xs
    → times n (slice_set xs i n) ≡ 1 → IsOwn t old n → AddsFree t old (slice_set xs i n)
adds_set t old xs i n so_far below once own m = ⊎_elim
    (λ (is : m ≡ n). subst (λ (z : ℕ). (times z (slice_set xs i n) ≤ times z old)
    ⊎ (IsFree t z × (times z (slice_set xs i n) ≤ 1))) (sym is) here)
    (λ (other : m ≡ n → ⊥).
    let set = times_set m xs i n below in
    let none = times_tail m n [] other in
    ⊎_elim (λ fewer. inl (omega arith)) (λ free. inr (free.0, let one = free.1 in omega arith)) (so_far m))
    (cases_eq m n)
  where
    here : (times n (slice_set xs i n) ≤ times n old) ⊎ (IsFree t n × (times n (slice_set xs i n) ≤ 1))
    here = ⊎_elim
        (λ (some : 0 < times n old). inl (omega arith))
        (λ none. inr (record { clear = own.clear; unheld = let alone = own.alone in omega arith }, omega arith))
        (cases_lt 0 (times n old))

-- A block that is held once and is in a list once is still there once, as blocks are replaced by others.
pub few_more : (xs ys : List ℕ) (i n : ℕ) → i < length ys → times n (slice_set ys i n) ≡ 1
    → ((m : ℕ) → times m xs ≤ 1 → times m ys ≤ 1) → (m : ℕ) → times m xs ≤ 1 → times m (slice_set ys i n) ≤ 1
few_more xs ys i n below once few m one = ⊎_elim
    (λ (is : m ≡ n). let a = ap (λ (z : ℕ). times z (slice_set ys i n)) is in omega arith)
    (λ (other : m ≡ n → ⊥). let a = times_set m ys i n below in let b = times_tail m n [] other in let c = few m one in
    omega arith)
    (cases_eq m n)

-- So it is never replaced by another.
pub stays_more : (t t' : TableState) (xs ys : List ℕ) (i n : ℕ) → t' ≡ record t { held = t'.held }
    → ((m : ℕ) → holds t' m + times m xs ≡ holds t m + times m ys) → ((m : ℕ) → times m xs ≤ holds t m)
    → ((m : ℕ) → times m xs ≤ 1 → times m ys ≤ 1) → length ys ≡ length xs → KeepsOwn t xs ys
    → (bit t' (slice_index ys i) ≡ 0 → holds t' (slice_index ys i) ≡ 1 → n ≡ slice_index ys i)
    → KeepsOwn t xs (slice_set ys i n)
stays_more t t' xs ys i n same held all few long keeps own j below clear one = ⊎_elim
    (λ (is : j ≡ i).
    let m : ℕ = slice_index xs j in
    let there : slice_index ys i ≡ slice_index xs j = ap (slice_index ys) (sym is) ∙ keeps j below clear one in
    let a = times_at xs j below in
    let b = all (slice_index xs j) in
    let d = few (slice_index xs j) (omega arith) in
    let e = subst (λ (z : ℕ). 0 < times z ys) there (times_at ys i (omega arith)) in
    let f = held (slice_index xs j) in
    let now : holds t' (slice_index xs j) ≡ 1 = omega arith in
    let free = ap (bit t') there ∙ bits_same t t' same (slice_index xs j) ∙ clear in
    let is_own = own free (ap (holds t') there ∙ now) in
    ap (slice_index (slice_set ys i n)) is ∙ get_or-set_same ys i n 0 (omega arith) ∙ is_own ∙ there)
    (λ (other : j ≡ i → ⊥). get_or-set_other ys i j n 0 other ∙ keeps j below clear one)
    (cases_eq j i)
