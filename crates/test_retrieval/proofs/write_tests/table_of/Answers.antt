use Rattle.std.proofs.Common.{◌≡◌, ℕ, zero, suc, ◌+◌, Bool, false, List, get_or, replicate, refl, ◌∙◌, ap, arith}
use Rattle.std.proofs.Common.{rules}
use Rattle.std.proofs.lemmas.Bool.Decides.{nat_tests}
use Rattle.spec_image.specs.Common.{sum_below, space_start, fixed}
use Rattle.alloctab.specs.Common.{digit, digit_at, TableState, IsFree, bit, holds, used, used_in_space, space, uses}
use Rattle.alloctab.specs.Common.{used-free, wanted_bit}
use Rattle.test_retrieval.proofs.write_tests.table_of.Goals as goal

no_flags : (k n : ℕ) → get_or (replicate k false) n false ≡ false
no_flags zero n = refl
no_flags (suc k) zero = refl
no_flags (suc k) (suc n) = no_flags k n

no_counts : (k n : ℕ) → let e : List ℕ = replicate k 0 in let z : ℕ = get_or e n 0 in z ≡ 0
no_counts zero n = refl
no_counts (suc k) zero = refl
no_counts (suc k) (suc n) = no_counts k n

sum_zero : (f : ℕ → ℕ) (k : ℕ) → ((j : ℕ) → f j ≡ 0) → sum_below f k ≡ 0
sum_zero f zero none = refl
sum_zero f (suc k) none = let a = none k in let b = sum_zero f k none in omega arith

not_fixed : (size j : ℕ) → fixed size (space_start size + j) ≡ 0
not_fixed size j = grind (arith, nat_tests)

unused : (t : TableState) (reached : List Bool) (size : ℕ) → t.held ≡ replicate t.size 0
    → reached ≡ replicate size false → ((n : ℕ) → bit t n ≡ wanted_bit t.size reached n) → used_in_space t ≡ 0
unused t reached size held none right = sum_zero (λ j. used t (space_start t.size + j)) (space t.size)
    (λ j. used-free t (space_start t.size + j) (free j))
  where
    free : (j : ℕ) → IsFree t (space_start t.size + j)
    free j =
        let n = space_start t.size + j in
        let flag : digit_at reached n ≡ 0 = ap (λ (l : List Bool). digit_at l n) none ∙ ap digit (no_flags size n) in
        record {
          clear = let a = right n in let b = not_fixed t.size j in omega arith;
          unheld = ap (λ (l : List ℕ). get_or l n 0) held ∙ no_counts t.size n;
        }

no_uses : (t : TableState) (reached : List Bool) (size : ℕ) → t.held ≡ replicate t.size 0
    → reached ≡ replicate size false → ((n : ℕ) → bit t n ≡ wanted_bit t.size reached n) → uses t ≡ 0
no_uses t reached size held none right = sum_zero (λ j. bit t (space_start t.size + j)
    + holds t (space_start t.size + j)) (space t.size) each
  where
    each : (j : ℕ) → bit t (space_start t.size + j) + holds t (space_start t.size + j) ≡ 0
    each j =
        let n = space_start t.size + j in
        let flag : digit_at reached n ≡ 0 = ap (λ (l : List Bool). digit_at l n) none ∙ ap digit (no_flags size n) in
        let a = right n in
        let b = not_fixed t.size j in
        let c : holds t n ≡ 0 = ap (λ (l : List ℕ). get_or l n 0) held ∙ no_counts t.size n in
        omega arith

pub returns-clause-no_uses : goal.returns-clause-no_uses
returns-clause-no_uses g c =
    let t = c.in_ok-table.table in
    let reached = c.in-Ok.reached in
    let right : (n : ℕ) → bit t n ≡ wanted_bit t.size reached n = search rules in
    ap uses c.book.ensures ∙ no_uses t reached c.blocks-size.result c.in_ok-table.ensures.unheld c.in-Ok.ensures right

pub returns-clause-unheld : goal.returns-clause-unheld
returns-clause-unheld g c n =
    let t = c.in_ok-table.table in
    ap (λ (u : TableState). holds u n) c.book.ensures ∙ ap (λ (l : List ℕ). get_or l n 0) c.in_ok-table.ensures.unheld
    ∙ no_counts t.size n

pub returns-clause-unused : goal.returns-clause-unused
returns-clause-unused g c =
    let t = c.in_ok-table.table in
    let reached = c.in-Ok.reached in
    let right : (n : ℕ) → bit t n ≡ wanted_bit t.size reached n = search rules in
    ap used_in_space c.book.ensures
    ∙ unused t reached c.blocks-size.result c.in_ok-table.ensures.unheld c.in-Ok.ensures right
