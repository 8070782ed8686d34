-- Lists in another order, and lists with the places of their elements.
use Rattle.std.proofs.Common.{◌≡◌, ◌==◌, ℕ, zero, suc, ◌+◌, ◌<◌, ◌≤◌, List, [], ◌∷◌, ◌++◌, map, length, Bool, true}
use Rattle.std.proofs.Common.{false, cond, Some, None, Ordering, refl, sym, ap, subst, ◌∙◌, arith}
use Rattle.std.specs.Cmp.{IsTotalOrder}
use Rattle.std.specs.Ordering.{eq_by_cmp}
use Rattle.std.specs.FinMap.{IsAntisymmetric}
use Rattle.std.specs.FinMap.Entries.{find}
use Rattle.std.specs.List.{AllByRecursion, enumerate_from, range_with_len, slice_get}
use Rattle.std.specs.List.Sorted.{IsPermutation, IsNonDecreasingBy}
use Rattle.std.proofs.lemmas.Bool.{eqb-true}
use Rattle.std.proofs.lemmas.List.Elements.{All-from_recursion, recursion_from_All}
use Rattle.std.proofs.lemmas.List.Recursion.{is_sum_by}
use Rattle.std.proofs.lemmas.List.Sorted.{All-permutation, sum_by-IsPermutation}
use Rattle.spec_image.specs.Common.{EachOnce, times, total}
use Rattle.spec_image.proofs.Common.{at_itself, some_same, some_none, tied, times_head, same_head, same_tail}

-- What is so of a list in any order.

module _ {A : Type 0} (xs ys : List A) (moved : IsPermutation xs ys) where
  pub all_moved : (P : A → Type 0) → AllByRecursion P xs → AllByRecursion P ys
  all_moved P all = recursion_from_All P ys (All-permutation P xs ys moved (All-from_recursion P xs all))

  pub total_moved : (f : A → ℕ) → total f ys ≡ total f xs
  total_moved f = is_sum_by (total f) f refl (λ x l. refl) ys ∙ sum_by-IsPermutation f xs ys moved
      ∙ sym (is_sum_by (total f) f refl (λ x l. refl) xs)

pub times_moved : (xs ys : List ℕ) → IsPermutation xs ys → (n : ℕ) → times n ys ≡ times n xs
times_moved xs ys moved n = counts ys ∙ total_moved xs ys moved (λ x. cond (n == x) 1 0) ∙ sym (counts xs)
  where
    counts : (zs : List ℕ) → times n zs ≡ total (λ x. cond (n == x) 1 0) zs
    counts [] = refl
    counts (z ∷ zs) = ap (λ m. cond (n == z) 1 0 + m) (counts zs)

-- how many entries have a key
counted : {K X : Type 0} (R : K → K → Ordering) → K → List (K × X) → ℕ
counted R k es = total (λ e. cond (eq_by_cmp R k e.0) 1 0) es

module _ {K X : Type 0} {R : K → K → Ordering} (o : IsTotalOrder R) (exact : IsAntisymmetric R) where
  none_counted : (k : K) (es : List (K × X)) → find R k es ≡ None → counted R k es ≡ 0
  unfolding counted
  none_counted k [] none = refl
  none_counted k (e ∷ es) none = by (eq_by_cmp R k e.0) refl none (none_counted k es)
    where
      by : (b : Bool) → eq_by_cmp R k e.0 ≡ b → cond b (Some e.1) (find R k es) ≡ None
          → (find R k es ≡ None → total (λ x. cond (eq_by_cmp R k x.0) 1 0) es ≡ 0)
          → cond (eq_by_cmp R k e.0) 1 0 + total (λ x. cond (eq_by_cmp R k x.0) 1 0) es ≡ 0
      by true is found rest = absurd (some_none found)
      by false is found rest =
          let later = rest found in
          let first = ap {B = ℕ} (λ b. cond b 1 0) is in
          omega arith

  counted_none : (k : K) (es : List (K × X)) → counted R k es ≡ 0 → find R k es ≡ None
  unfolding counted
  counted_none k [] none = refl
  counted_none k (e ∷ es) none = by (eq_by_cmp R k e.0) refl (counted_none k es)
    where
      by : (b : Bool) → eq_by_cmp R k e.0 ≡ b
          → (total (λ x. cond (eq_by_cmp R k x.0) 1 0) es ≡ 0 → find R k es ≡ None)
          → cond (eq_by_cmp R k e.0) (Some e.1) (find R k es) ≡ None
      by true is rest = let first = ap {B = ℕ} (λ b. cond b 1 0) is in absurd (omega arith)
      by false is rest = ap (λ b. cond b (Some e.1) (find R k es)) is
          ∙ rest (let first = ap {B = ℕ} (λ b. cond b 1 0) is in omega arith)

  once_counted : (es : List (K × X)) → EachOnce R es → (k : K) → counted R k es ≤ 1
  unfolding counted
  once_counted [] once k = omega arith
  once_counted (e ∷ es) once k = by (eq_by_cmp R k e.0) refl (once_counted es once.1 k)
    where
      by : (b : Bool) → eq_by_cmp R k e.0 ≡ b → total (λ x. cond (eq_by_cmp R k x.0) 1 0) es ≤ 1
          → cond (eq_by_cmp R k e.0) 1 0 + total (λ x. cond (eq_by_cmp R k x.0) 1 0) es ≤ 1
      by true is rest =
          let same = tied o exact k e.0 is in
          let none = none_counted k es (ap (λ q. find R q es) same ∙ once.0) in
          let first = ap {B = ℕ} (λ b. cond b 1 0) is in
          omega arith
      by false is rest =
          let first = ap {B = ℕ} (λ b. cond b 1 0) is in
          omega arith

  counted_once : (es : List (K × X)) → ((k : K) → counted R k es ≤ 1) → EachOnce R es
  unfolding counted
  counted_once [] most = tt
  counted_once (e ∷ es) most = (
    counted_none e.0 es (let first = ap {B = ℕ} (λ b. cond b 1 0) (at_itself o e.0) in let all = most e.0 in
        omega arith),
    counted_once es (λ k. let all = most k in omega arith),
  )

  pub once_moved : (es fs : List (K × X)) → IsPermutation es fs → EachOnce R es → EachOnce R fs
  unfolding counted
  once_moved es fs moved once = counted_once fs (λ k.
      let same = total_moved es fs moved (λ e. cond (eq_by_cmp R k e.0) 1 0) in
      let most = once_counted es once k in
      omega arith)

-- Lists with the places of their elements.

module _ {A : Type 0} where
  -- each element is at its place
  pub all_at_place : (all xs : List A) (k : ℕ) → ((i : ℕ) → slice_get all (k + i) ≡ slice_get xs i)
      → AllByRecursion (λ t. slice_get all t.0 ≡ Some t.1) (enumerate_from k xs)
  all_at_place all [] k at = tt
  all_at_place all (x ∷ xs) k at = (
    let zero_more : k ≡ k + 0 = omega arith in ap (slice_get all) zero_more ∙ at 0,
    all_at_place all xs (k + 1) (λ i. let more : k + 1 + i ≡ k + suc i = omega arith in
        ap (slice_get all) more ∙ at (suc i)),
  )

  -- what holds of each element and its place
  pub at_its_place : (P : ℕ × A → Type 0) (xs : List A) (k : ℕ) → AllByRecursion P (enumerate_from k xs)
      → (i : ℕ) (x : A)
      → slice_get xs i ≡ Some x → P (k + i, x)
  at_its_place P [] k all i x is = absurd (some_none (sym is))
  at_its_place P (y ∷ xs) k all zero x is = subst P (let zero_more : k ≡ k + 0 = omega arith in
      let same = some_same is in λ j. (zero_more j, same j)) all.0
  at_its_place P (y ∷ xs) k all (suc i) x is = subst P (let more : k + 1 + i ≡ k + suc i = omega arith in
      λ j. (more j, x)) (at_its_place P xs (k + 1) all.1 i x is)

  -- what holds of each element
  pub all_enumerated : (P : A → Type 0) (xs : List A) (k : ℕ) → AllByRecursion (λ q. P q.1) (enumerate_from k xs)
      → AllByRecursion P xs
  all_enumerated P [] k all = tt
  all_enumerated P (x ∷ xs) k all = (all.0, all_enumerated P xs (k + 1) all.1)

  pub enumerated_elements : (xs : List A) (k : ℕ) → map (λ q. q.1) (enumerate_from k xs) ≡ xs
  enumerated_elements [] k = refl
  enumerated_elements (x ∷ xs) k = ap (λ l. x ∷ l) (enumerated_elements xs (k + 1))

  pub enumerated_places : (xs : List A) (k : ℕ) → map (λ q. q.0) (enumerate_from k xs) ≡ range_with_len k (length xs)
  enumerated_places [] k = refl
  enumerated_places (x ∷ xs) k = ap (λ l. k ∷ l) (enumerated_places xs (k + 1))

  -- one element more
  pub enumerated_push : (k : ℕ) (xs : List A) (x : A)
      → enumerate_from k (xs ++ x ∷ []) ≡ enumerate_from k xs ++ (k + length xs, x) ∷ []
  enumerated_push k [] x = let zero_more : k ≡ k + 0 = omega arith in λ i. (zero_more i, x) ∷ []
  enumerated_push k (y ∷ xs) x =
      let more : k + 1 + length xs ≡ k + suc (length xs) = omega arith in
      ap (λ l. (k, y) ∷ l) (enumerated_push (k + 1) xs x ∙ (λ i. enumerate_from (k + 1) xs ++ (more i, x) ∷ []))

module _ {A B : Type 0} (f : A → ℕ) (g : A → B) where
  -- their keys are their places
  pub enumerated_by : (qs : List A) (k : ℕ) → map f qs ≡ range_with_len k (length qs)
      → map (λ q. (f q, g q)) qs ≡ enumerate_from k (map g qs)
  enumerated_by [] k same = refl
  enumerated_by (q ∷ qs) k same = λ i. (same_head same i, g q) ∷ enumerated_by qs (k + 1) (same_tail same) i

pub map_twice : {A B C : Type 0} (f : B → C) (g : A → B) (xs : List A) → map f (map g xs) ≡ map (λ x. f (g x)) xs
map_twice f g [] = refl
map_twice f g (x ∷ xs) = ap (λ l. f (g x) ∷ l) (map_twice f g xs)

pub enumerated_map : {A B : Type 0} (g : A → B) (qs : List A) (k : ℕ)
    → map {B = ℕ × B} (λ t. (t.0, g t.1)) (enumerate_from k qs) ≡ enumerate_from k (map g qs)
enumerated_map g [] k = refl
enumerated_map g (q ∷ qs) k = ap (λ l. (k, g q) ∷ l) (enumerated_map g qs (k + 1))

-- Numbers that rise, and are those of a range, are that range.

in_range : (a n k : ℕ) → 0 < times k (range_with_len a n) → a ≤ k
in_range a zero k some = absurd (omega arith)
in_range a (suc n) k some = by (k == a) refl (in_range (a + 1) n k)
  where
    by : (b : Bool) → (k == a) ≡ b → (0 < times k (range_with_len (a + 1) n) → a + 1 ≤ k) → a ≤ k
    by true is rest = let same = eqb-true k a is in omega arith
    by false is rest =
        let first = ap {B = ℕ} (λ b. cond b 1 0) is in
        let later = rest (omega arith) in
        omega arith

module _ {A : Type 0} (f : A → ℕ) where
  least : (m : ℕ) (qs : List A) → AllByRecursion (λ q. m ≤ f q) qs → (k : ℕ) → 0 < times k (map f qs) → m ≤ k
  least m [] all k some = absurd (omega arith)
  least m (q ∷ qs) all k some = by (k == f q) refl (least m qs all.1 k)
    where
      by : (b : Bool) → (k == f q) ≡ b → (0 < times k (map f qs) → m ≤ k) → m ≤ k
      by true is rest = let same = eqb-true k (f q) is in let here = all.0 in omega arith
      by false is rest = rest (let first = ap {B = ℕ} (λ b. cond b 1 0) is in omega arith)

  pub rising_range : (a n : ℕ) (qs : List A) → IsNonDecreasingBy f qs
      → ((k : ℕ) → times k (map f qs) ≡ times k (range_with_len a n)) → map f qs ≡ range_with_len a n
  rising_range a zero [] rising same = refl
  rising_range a (suc n) [] rising same =
      let none = same a in
      let some = times_head a (range_with_len (a + 1) n) in
      absurd (omega arith)
  rising_range a zero (q ∷ qs) rising same =
      let none = same (f q) in
      let some = times_head (f q) (map f qs) in
      absurd (omega arith)
  rising_range a (suc n) (q ∷ qs) rising same =
      let above : AllByRecursion (λ x. f q ≤ f x) (q ∷ qs) = (
        omega arith,
        recursion_from_All (λ x. f q ≤ f x) qs
            (λ k d below. rising 0 (suc k) d (omega arith) (omega arith)),
      ) in
      let at_a = same a in
      let at_q = same (f q) in
      let one_a = times_head a (range_with_len (a + 1) n) in
      let one_q = times_head (f q) (map f qs) in
      let low = least (f q) (q ∷ qs) above a (omega arith) in
      let high = in_range a (suc n) (f q) (omega arith) in
      let first : f q ≡ a = omega arith in
      let rest = rising_range (a + 1) n qs (λ i j d le below. rising (suc i) (suc j) d (omega arith) (omega arith))
      (λ k. let whole = same k in let alike = ap {B = ℕ} (λ m. cond (k == m) 1 0) first in omega arith) in
      λ i. first i ∷ rest i
