-- The places of entries in ascending key order, for a list of entries in another order.
use Rattle.std.specs.Prelude.{◌≡◌, ℕ, ◌<◌, ◌≤◌, ◌++◌, ◌∷◌, suc, List, [], length, slice_get, Option, Some, None, take}
use Rattle.std.specs.Prelude.{drop, ⊤}
use Rattle.std.specs.List.{AllByRecursion}
use Rattle.std.specs.Map.{values_of}
use Rattle.std.specs.declared.cmp.Ordering.{Ordering}
use Rattle.std.specs.declared.cmp.Ordering.TheVariants.{Less, Greater}
use Rattle.spec_image.specs.Common.{times}

-- how the key of an entry compares with another; a missing entry is below each key
abbrev pub order_to : {K V : Type 0} → (K → K → Ordering) → K → Option (K × V) → Ordering
order_to R k None = Less
order_to R k (Some e) = R e.0 k

module _ {K V : Type 0} (R : K → K → Ordering) (items : List (K × V)) where
  -- An entry with this key is at place p.
  abbrev pub HasKeyAt : K → ℕ → Type 0
  HasKeyAt k p = (v : V) × (slice_get items p ≡ Some (k, v))

  -- The key at place p is below that at place q.
  abbrev pub Precedes : ℕ → ℕ → Type 0
  Precedes p q = (x y : K × V) → slice_get items p ≡ Some x → slice_get items q ≡ Some y → R x.0 y.0 ≡ Less

  -- Places of entries, in ascending key order.
  abbrev pub AreRising : List ℕ → Type 0
  AreRising [] = ⊤
  AreRising (p ∷ ps) = (p < length items) × AllByRecursion (Precedes p) ps × AreRising ps

  -- The key at a place compares with this one as r.
  abbrev pub Compares : K → Ordering → ℕ → Type 0
  Compares k r p = (x : K × V) → slice_get items p ≡ Some x → R x.0 k ≡ r

  -- Where a key would be in the order, if none of the places has it.
  pub record IsGap (k : K) (order : List ℕ) (at : ℕ) : Type 0 where
    pub within : at ≤ length order
    pub low : AllByRecursion (Compares k Less) (take at order)
    pub high : AllByRecursion (Compares k Greater) (drop at order)

  -- A place was put into the order, where its key belongs.
  pub record IsInserted (k : K) (place : ℕ) (old new : List ℕ) : Type 0 where
    pub at : ℕ
    pub gap : IsGap k old at
    pub is : new ≡ take at old ++ place ∷ drop at old

  -- All places, each once, in ascending key order.
  pub record IsIndex (order : List ℕ) : Type 0 where
    pub rising : AreRising order
    pub inside : (p : ℕ) → p < length items → times p order ≡ 1
    pub outside : (p : ℕ) → length items ≤ p → times p order ≡ 0
    pub counted : length order ≡ length items

  -- The place of each entry with its key, in ascending key order.
  pub record AreGathered (found : List (K × ℕ)) : Type 0 where
    pub index : IsIndex (values_of found)
    pub led : AllByRecursion (λ f. HasKeyAt f.0 f.1) found

-- A place left an order.
pub record IsLeft (place : ℕ) (old new : List ℕ) : Type 0 where
  pub at : ℕ
  pub was : slice_get old at ≡ Some place
  pub is : new ≡ take at old ++ drop (suc at) old
