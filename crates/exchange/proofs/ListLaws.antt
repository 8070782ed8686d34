-- Numbers in a row, and the addresses of areas.
use Rattle.std.proofs.Common.{◌≡◌, ℕ, zero, suc, ◌+◌, ◌-◌, ◌<◌, ◌≤◌, List, [], ◌∷◌, ◌++◌, length, take, drop, get_or}
use Rattle.std.proofs.Common.{sym, ap, ◌∙◌, append-nil, length-append, arith}
use Rattle.std.proofs.lemmas.List.{take_more, take-append-drop}
use Rattle.std.proofs.lemmas.List.FromFn.{length-range_with_len}
use Rattle.std.proofs.lemmas.Grind.{flat_map-append}
use Rattle.std.specs.List.{range_with_len}
use Rattle.spec_machine.specs.declared.area.Area.{Area}
use Rattle.exchange.specs.Turns.{addresses}

-- a row in two parts
pub range_split : (a n m : ℕ) → range_with_len a (n + m) ≡ range_with_len a n ++ range_with_len (a + n) m
range_split a zero m = λ i. range_with_len (same i) (none i)
  where
    same : a ≡ a + 0
    same = omega arith

    none : 0 + m ≡ m
    none = omega arith
range_split a (suc n) m =
    let head : range_with_len a (suc n + m) ≡ a ∷ range_with_len (a + 1) (n + m)
    = ap (range_with_len a) (more n m) in
    let place : a + 1 + n ≡ a + suc n = omega arith in
    head ∙ ap (λ l. a ∷ l) (range_split (a + 1) n m
    ∙ ap (λ k. range_with_len (a + 1) n ++ range_with_len k m) place)
  where
    more : (n m : ℕ) → suc n + m ≡ suc (n + m)
    more n m = omega arith

-- one more
pub range_more : (a n place : ℕ) → place ≡ a + n → range_with_len a (n + 1) ≡ range_with_len a n ++ place ∷ []
range_more a n place is = range_split a n 1 ∙ ap (λ k. range_with_len a n ++ k ∷ []) (sym is)

-- those before one, that one, and those after it
pub range_around : (a n count place : ℕ) → n < count → place ≡ a + n
    → range_with_len a count ≡ range_with_len a n ++ place ∷ [] ++ range_with_len (a + (n + 1)) (count - n - 1)
range_around a n count place h is =
    let parts : count ≡ n + 1 + (count - n - 1) = omega arith in
    ap (range_with_len a) parts ∙ range_split a (n + 1) (count - n - 1)
    ∙ ap (λ l. l ++ range_with_len (a + (n + 1)) (count - n - 1)) (range_more a n place is)

-- a list at one of its places
pub list_more : {X : Type 0} (xs : List X) (i : ℕ) (x : X) → i < length xs → x ≡ get_or xs i x
    → take (i + 1) xs ≡ take i xs ++ x ∷ []
list_more xs i x h is = take_more xs i x h ∙ ap (λ e. take i xs ++ e ∷ []) (sym is)

module _ (areas : List Area) (i : ℕ) (area : Area) (h : i < length areas) (is : area ≡ get_or areas i area) where
  one_area : addresses (area ∷ []) ≡ range_with_len area.first area.count
  one_area = append-nil (range_with_len area.first area.count)

  pub addresses_more : addresses (take (i + 1) areas)
      ≡ addresses (take i areas) ++ range_with_len area.first area.count
  addresses_more = ap addresses (list_more areas i area h is)
      ∙ flat_map-append (λ a. range_with_len a.first a.count) (take i areas) (area ∷ [])
      ∙ ap (λ l. addresses (take i areas) ++ l) one_area

  pub addresses_around : addresses areas
      ≡ addresses (take i areas) ++ range_with_len area.first area.count ++ addresses (drop (i + 1) areas)
  addresses_around = ap addresses (sym (take-append-drop (i + 1) areas))
      ∙ flat_map-append (λ a. range_with_len a.first a.count) (take (i + 1) areas) (drop (i + 1) areas)
      ∙ ap (λ l. l ++ addresses (drop (i + 1) areas)) addresses_more

  -- as many as its words are added, and no more than all areas have
  pub count_more : length (addresses (take (i + 1) areas)) ≡ length (addresses (take i areas)) + area.count
  count_more = ap length addresses_more
      ∙ length-append (addresses (take i areas)) (range_with_len area.first area.count)
      ∙ ap (λ n. length (addresses (take i areas)) + n) (length-range_with_len area.first area.count)

  pub count_within : length (addresses (take i areas)) + area.count ≤ length (addresses areas)
  count_within =
      let all = ap length addresses_around
      ∙ length-append (addresses (take i areas) ++ range_with_len area.first area.count)
      (addresses (drop (i + 1) areas)) in
      omega (
        arith,
        all,
        length-append (addresses (take i areas)) (range_with_len area.first area.count),
        length-range_with_len area.first area.count,
      )
