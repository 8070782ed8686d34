-- A finite map as a value: its entries, in the order of their keys. The operations compute on closed terms, in a proof
-- with the line `unfolding entries empty get insert remove size`; laws about them are in proofs/. Besides it there are
-- words for a list of entries, a sum over a list or a map, and how often a number is in a list.
use Rattle.std.specs.Prelude.{◌≡◌, ℕ, ◌+◌, ◌==◌, Bool, true, false, cond, not, T, List, [], ◌∷◌, map, length, Option}
use Rattle.std.specs.Prelude.{None, refl}
use mathlib.Core.Path.{sym, subst}
use Rattle.std.specs.declared.cmp.Ordering.{Ordering}
use Rattle.std.specs.Ordering.{eq_by_cmp}
use Rattle.std.specs.FinMap.Entries.{find, put, is_sorted, where_key, is_sorted-where_key}

pub record FinMap {K : Type 0} (R : K → K → Ordering) (X : Type 0) : Type 0 where
  pub list : List (K × X)
  pub sorted : T (is_sorted R list)

module _ {K X : Type 0} {R : K → K → Ordering} where
  -- the entries, in the order of their keys
  unfoldable pub entries : FinMap R X → List (K × X)
  entries m = m.list

  unfoldable pub empty : FinMap R X
  empty = record { list = []; sorted = tt }

  -- An order that isn't total may leave a list unsorted; then the map is the one given.
  abbrev pub checked : (es : List (K × X)) (b : Bool) → is_sorted R es ≡ b → FinMap R X → FinMap R X
  checked es true e m = record { list = es; sorted = subst T (sym e) tt }
  checked es false e m = m

  unfoldable pub get : FinMap R X → K → Option X
  get m k = find R k (entries m)

  unfoldable pub insert : FinMap R X → K → X → FinMap R X
  insert m k v = checked (put R k v (entries m)) _ refl m

  unfoldable pub remove : FinMap R X → K → FinMap R X
  remove m k = record {
    list = where_key R (λ q. not (eq_by_cmp R k q)) m.list;
    sorted = is_sorted-where_key R (λ q. not (eq_by_cmp R k q)) m.list m.sorted;
  }

  unfoldable pub size : FinMap R X → ℕ
  size m = length (entries m)

  abbrev pub keys : FinMap R X → List K
  keys m = map (λ e. e.0) (entries m)

  abbrev pub values : FinMap R X → List X
  values m = map (λ e. e.1) (entries m)

  -- A key that comes twice has the first value.
  abbrev pub from_entries : List (K × X) → FinMap R X
  from_entries [] = empty
  from_entries (e ∷ es) = insert (from_entries es) e.0 e.1

-- the map with f of each value
abbrev pub map_values : {K X Y : Type 0} {R : K → K → Ordering} → (X → Y) → FinMap R X → FinMap R Y
map_values f m = from_entries (map (λ e. (e.0, f e.1)) (entries m))

-- No key comes twice in the list.
abbrev pub EachOnce : {K X : Type 0} → (K → K → Ordering) → List (K × X) → Type 0
EachOnce R [] = Unit {0}
EachOnce R (e ∷ es) = (find R e.0 es ≡ None) × EachOnce R es

-- the sum of f over a list
abbrev pub total : {X : Type 0} → (X → ℕ) → List X → ℕ
total f [] = 0
total f (x ∷ xs) = f x + total f xs

-- the sum over the keys and values of a map, and the one over its values
abbrev pub sum_entries : {K X : Type 0} {R : K → K → Ordering} → (K → X → ℕ) → FinMap R X → ℕ
sum_entries f m = total (λ e. f e.0 e.1) (entries m)

abbrev pub sum_over : {K X : Type 0} {R : K → K → Ordering} → (X → ℕ) → FinMap R X → ℕ
sum_over f m = total (λ e. f e.1) (entries m)

-- how often the number is in the list
abbrev pub times : ℕ → List ℕ → ℕ
times n [] = 0
times n (x ∷ xs) = cond (n == x) 1 0 + times n xs
