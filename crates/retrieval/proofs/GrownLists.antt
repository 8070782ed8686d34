-- A list of blocks that grows by free ones.
use Rattle.std.proofs.Common.{◌≡◌, ⊎_elim, inl, inr, ℕ, ◌+◌, ◌-◌, ◌<◌, List, [], ◌∷◌, ◌++◌, length, max, refl, sym}
use Rattle.std.proofs.Common.{◌∙◌, ap, subst, arith, ◌≤◌}
use Rattle.std.specs.Prelude.{slice_index}
use Rattle.std.specs.List.{AllByRecursion}
use Rattle.std.proofs.lemmas.Bool.{cases_eq, cases_lt}
use Rattle.std.proofs.lemmas.Bool.Decides.{nat_tests}
use Rattle.std.proofs.lemmas.List.{length-append, get_or_append_left}
use Rattle.spec_image.specs.Common.{InSpace, times, length_after, block_start}
use Rattle.spec_image.proofs.Common.{times-append, all_times, all_append}
use Rattle.changeset.specs.Common.{times_head, times_tail}
use Rattle.alloctab.specs.Common.{TableState, IsTable, bit, holds, with_held, uses, sound-with_held}
use Rattle.retrieval.specs.Common.{AddsFree, KeepsOwn, Takes, GrowsBy, AreApart, IsFixed}
use Rattle.retrieval.proofs.TakenBlocks.{free_in_space, may_be_written, takes_none, takes_apart}
use Rattle.retrieval.proofs.HeldBlocks.{holds_taken, uses-with_held}
use Rattle.retrieval.proofs.Placed.{bits_same}

-- what taking blocks does to a table
pub takes_table : (t : TableState) (ns : List ℕ) (t' : TableState) → Takes t ns t' → t' ≡ record t { held = t'.held }
takes_table t [] t' takes = subst (λ (u : TableState). u ≡ record t { held = u.held }) (sym takes) refl
takes_table t (n ∷ ns) t' takes = takes_table (with_held t n (holds t n + 1)) ns t' takes.2

pub takes_holds : (t : TableState) (ns : List ℕ) (t' : TableState) → IsTable t → Takes t ns t' → (m : ℕ)
    → holds t' m ≡ holds t m + times m ns
takes_holds t [] t' sound takes m = let e = ap (λ (u : TableState). holds u m) takes in omega arith
takes_holds t (n ∷ ns) t' sound takes m =
    let rest = takes_holds (with_held t n (holds t n + 1)) ns t' (sound-with_held t n (holds t n + 1) sound)
    takes.2 m in
    let one = holds_taken t n m sound takes.0 in
    omega arith

takes_uses : (t : TableState) (ns : List ℕ) (t' : TableState) → IsTable t → IsFixed t → Takes t ns t'
    → uses t' ≡ uses t + length ns
takes_uses t [] t' sound fixed takes = let e = ap uses takes in omega arith
takes_uses t (n ∷ ns) t' sound fixed takes =
    let rest = takes_uses (with_held t n (holds t n + 1)) ns t' (sound-with_held t n (holds t n + 1) sound)
    fixed takes.2 in
    let one = uses-with_held t n (holds t n + 1) sound (free_in_space t n fixed takes.1) takes.0 in
    omega arith

apart_once : (n : ℕ) (ns : List ℕ) → AreApart ns → times n ns ≤ 1
apart_once n [] apart = omega arith
apart_once n (m ∷ ns) apart = ⊎_elim
    (λ (is : n ≡ m). let here = times_head n m ns is in let none = ap (λ (z : ℕ). times z ns) is in
    let others = apart.0 in omega arith)
    (λ (other : n ≡ m → ⊥). let here = times_tail n m ns other in let rest = apart_once n ns apart.1 in omega arith)
    (cases_eq n m)

-- Free blocks of the table follow those of the list.
pub record IsGrown (size : ℕ) (t t' : TableState) (xs xs' : List ℕ) : Type 0 where
  pub table : t' ≡ record t { held = t'.held }
  pub held : (n : ℕ) → holds t' n + times n xs ≡ holds t n + times n xs'
  pub used : uses t' ≡ uses t + (length xs' - length xs)
  pub inside : AllByRecursion (InSpace size) xs'
  pub adds : ((n : ℕ) → times n xs ≤ holds t n) → AddsFree t xs xs'
  pub front : (j : ℕ) → j < length xs → slice_index xs' j ≡ slice_index xs j
  pub longer : length xs ≤ length xs'
  -- what was held isn't among the new ones
  pub others : (n : ℕ) → 0 < holds t n → times n xs' ≡ times n xs

grown_by : (size : ℕ) (t t' : TableState) (xs ns : List ℕ) → t.size ≡ size → IsTable t → IsFixed t
    → AllByRecursion (InSpace size) xs → Takes t ns t' → IsGrown size t t' xs (xs ++ ns)
grown_by size t t' xs ns is sound fixed inside takes = record {
  table = takes_table t ns t' takes;
  held = λ n. let a = takes_holds t ns t' sound takes n in let b = times-append n xs ns in omega arith;
  used = let a = takes_uses t ns t' sound fixed takes in let b = length-append xs ns in omega arith;
  inside = all_append (InSpace size) xs ns inside
      (all_times (InSpace size) ns (λ n there. (may_be_written size t ns t' is sound fixed takes n there).1));
  adds = λ held n.
      let parts = times-append n xs ns in
      ⊎_elim
      (λ there.
      let free = (may_be_written size t ns t' is sound fixed takes n there).0 in
      let none = free.unheld in
      let all = held n in
      let once = apart_once n ns (takes_apart t ns t' sound fixed takes) in
      inr (free, omega arith))
      (λ none. inl (omega arith))
      (cases_lt 0 (times n ns));
  front = λ j below. get_or_append_left xs ns 0 j below;
  longer = let b = length-append xs ns in omega arith;
  others = λ n some. let a = takes_none t ns t' sound fixed takes n (λ free. let b = free.unheld in omega arith) in
      let b = times-append n xs ns in omega arith;
}

-- Blocks were added at the end, `more` of them.
pub grown : (size : ℕ) (t t' : TableState) (xs old xs' : List ℕ) (more : ℕ) → t.size ≡ size → IsTable t
    → IsFixed t → AllByRecursion (InSpace size) xs → old ≡ xs → GrowsBy t t' old xs' more → IsGrown size t t' xs xs'
grown size t t' xs old xs' more is sound fixed inside same grows =
    let e : xs ++ grows.taken ≡ xs' = ap (λ (l : List ℕ). l ++ grows.taken) (sym same) ∙ sym grows.is in
    subst (IsGrown size t t' xs) e (grown_by size t t' xs grows.taken is sound fixed inside grows.takes)

pub grown_length : (t t' : TableState) (xs old xs' : List ℕ) (more : ℕ) → old ≡ xs → GrowsBy t t' old xs' more
    → length xs' ≡ length xs + more
grown_length t t' xs old xs' more same grows =
    let a = ap length grows.is in
    let b = length-append old grows.taken in
    let d = ap length same in
    let e = grows.many in
    omega arith

-- A block of the list's own is one of the longer list's own.
pub grown_keeps : (size : ℕ) (t t' : TableState) (xs xs' ys : List ℕ) → IsGrown size t t' xs xs' → KeepsOwn t' xs' ys
    → KeepsOwn t xs ys
grown_keeps size t t' xs xs' ys grown keeps j below clear one =
    let front = grown.front j below in
    let a = grown.longer in
    let b = grown.held (slice_index xs j) in
    let c = grown.others (slice_index xs j) (omega arith) in
    let held : holds t' (slice_index xs j) ≡ 1 = omega arith in
    keeps j (omega arith) (ap (bit t') front ∙ bits_same t t' grown.table (slice_index xs j)
    ∙ clear) (ap (holds t') front ∙ held) ∙ front

-- how long a body is after some words are put
pub after_some : (words block count : ℕ) → 0 < count
    → length_after words block count ≡ max words (block_start block + count)
after_some words block count some = grind (arith, nat_tests)
