-- Entries that are gathered with the places of their keys: where a new key belongs among these, and that they stay in
-- step. `o` states that the order of the keys is total, `exact` that only equal keys tie in it, and `keyed` that the
-- keys compare by it.
use Rattle.std.proofs.Common.{◌≡◌, ℕ, suc, List, [], ◌∷◌, ◌++◌, length, take, drop, map, slice_get, Option, Some}
use Rattle.std.proofs.Common.{None, true, false, cond, refl, sym, ap, subst, ◌∙◌, arith, Ordering, Less, Equal}
use Rattle.std.proofs.Common.{Greater}
use Rattle.std.specs.Option.{is_some}
use Rattle.std.proofs.lemmas.List.{length-map, map_push}
use Rattle.std.specs.Ordering.{is_eq, match_ordering, ordering_reverse}
use Rattle.std.specs.Cmp.{IsTotalOrder}
use Rattle.std.specs.List.{AllByRecursion}
use Rattle.std.specs.List.Sorted.{IsStrictlySortedBy}
use Rattle.std.specs.Map.{keys_of, values_of, lookup}
use Rattle.std.specs.BTreeMap.{insert_entry, is_at}
use Rattle.std.specs.FinMap.{IsAntisymmetric}
use Rattle.std.specs.FinMap.Entries.{find}
use Rattle.std.proofs.lemmas.Option.{slice_get_within}
use Rattle.spec_image.proofs.Common.{some_none, some_same}
use Rattle.directory.specs.Common.{HasKeyAt, Compares, IsGap, AreGathered}
use Rattle.directory.proofs.Orders.{get-push, get-push_last}
use Rattle.directory.proofs.KeyPlaces.{index_pushed, none_found, nowhere_found}

module _ {K V : Type 0} {R : K → K → Ordering} (o : IsTotalOrder R) (exact : IsAntisymmetric R) {cmp : K → K → Ordering}
    (keyed : (a b : K) → cmp a b ≡ R a b) (items : List (K × V)) where
  -- an entry of the tree leads to its key
  abbrev Leads : K × ℕ → Type 0
  Leads f = HasKeyAt R items f.0 f.1

  -- how the entry at a place compares with a key, by that of the tree
  compares : (f : K × ℕ) → Leads f → (k : K) (r : Ordering) → R f.0 k ≡ r → Compares R items k r f.1
  compares f has k r is x at = let same : x ≡ (f.0, has.0) = some_same (sym at ∙ has.1) in
      (λ j. R (same j).0 k) ∙ is

  above : (x k : K) → R k x ≡ Less → R x k ≡ Greater
  above x k e = o.antisymm x k ∙ ap ordering_reverse e

  -- the places of keys above one that is above k
  highs : (fs : List (K × ℕ)) (k x : K) → R k x ≡ Less → AllByRecursion Leads fs
      → AllByRecursion (λ y. cmp x y ≡ Less) (keys_of fs) → AllByRecursion (Compares R items k Greater) (values_of fs)
  highs [] k x less led rest = tt
  highs (f ∷ fs) k x less led rest = (
    compares f led.0 k Greater (above f.0 k (o.trans k x f.0 less (sym (keyed x f.0) ∙ rest.0))),
    highs fs k x less led.1 rest.1,
  )

  -- where a new key belongs, and that it is put there
  record IsPlaced (fs : List (K × ℕ)) (k : K) (p : ℕ) : Type 0 where
    at : ℕ
    gap : IsGap R items k (values_of fs) at
    is : values_of (insert_entry cmp fs k p) ≡ take at (values_of fs) ++ p ∷ drop at (values_of fs)

  placed : (fs : List (K × ℕ)) (k : K) (p : ℕ) → AllByRecursion Leads fs → IsStrictlySortedBy cmp (keys_of fs)
      → lookup (is_at (cmp k)) fs ≡ None → IsPlaced fs k p
  unfolding IsStrictlySortedBy
  placed [] k p led sorted none = record {
    at = 0;
    gap = record { within = omega arith; low = tt; high = tt };
    is = refl;
  }
  placed (f ∷ fs) k p led sorted none = step (cmp k f.0) refl none (placed fs k p led.1 sorted.1)
    where
      step : (r : Ordering) → cmp k f.0 ≡ r → cond (is_eq r) (Some f.1) (lookup (is_at (cmp k)) fs) ≡ None
          → (lookup (is_at (cmp k)) fs ≡ None → IsPlaced fs k p) → IsPlaced (f ∷ fs) k p
      step Less e n rest = let less : R k f.0 ≡ Less = sym (keyed k f.0) ∙ e in record {
        at = 0;
        gap = record {
          within = omega arith;
          low = tt;
          high = (compares f led.0 k Greater (above f.0 k less), highs fs k f.0 less led.1 sorted.0);
        };
        is = λ j. values_of (match_ordering (e j) ((k, p) ∷ f ∷ fs) ((f.0, p) ∷ fs) (f ∷ insert_entry cmp fs k p));
      }
      step Equal e n rest = absurd (some_none n)
      step Greater e n rest =
          let more = rest n in
          let less : R f.0 k ≡ Less = o.antisymm f.0 k ∙ ap ordering_reverse (sym (keyed k f.0) ∙ e) in
          record {
            at = suc more.at;
            gap = record {
              within = let within = more.gap.within in omega arith;
              low = (compares f led.0 k Less less, more.gap.low);
              high = more.gap.high;
            };
            is = (λ j. values_of (match_ordering (e j) ((k, p) ∷ f ∷ fs) ((f.0, p) ∷ fs) (f ∷ insert_entry cmp fs k p)))
                ∙ ap (λ ps. f.1 ∷ ps) more.is;
          }

  -- a key that the tree has is that of an entry
  led_to : (fs : List (K × ℕ)) (k : K) (p : ℕ) → AllByRecursion Leads fs → lookup (is_at (cmp k)) fs ≡ Some p
      → HasKeyAt R items k p
  led_to [] k p led found = absurd (some_none (sym found))
  led_to (f ∷ fs) k p led found = step (cmp k f.0) refl found (led_to fs k p led.1)
    where
      step : (r : Ordering) → cmp k f.0 ≡ r → cond (is_eq r) (Some f.1) (lookup (is_at (cmp k)) fs) ≡ Some p
          → (lookup (is_at (cmp k)) fs ≡ Some p → HasKeyAt R items k p) → HasKeyAt R items k p
      step Less e was rest = rest was
      step Equal e was rest =
          let key : k ≡ f.0 = exact k f.0 (sym (keyed k f.0) ∙ e) in
          let place : f.1 ≡ p = some_same was in (
            led.0.0,
            ap (slice_get items) (sym place) ∙ led.0.1 ∙ (λ j. Some (sym key j, led.0.0)),
          )
      step Greater e was rest = rest was

-- What holds for each entry of the tree, and for a new one, holds for each after that was added.
all_inserted : {K : Type 0} (P : K × ℕ → Type 0) (cmp : K → K → Ordering) (fs : List (K × ℕ)) (k : K) (p : ℕ)
    → lookup (is_at (cmp k)) fs ≡ None → AllByRecursion P fs → P (k, p) → AllByRecursion P (insert_entry cmp fs k p)
all_inserted P cmp [] k p none all new = (new, tt)
all_inserted P cmp (f ∷ fs) k p none all new = step (cmp k f.0) none
    (λ n. all_inserted P cmp fs k p n all.1 new)
  where
    step : (r : Ordering) → cond (is_eq r) (Some f.1) (lookup (is_at (cmp k)) fs) ≡ None
        → (lookup (is_at (cmp k)) fs ≡ None → AllByRecursion P (insert_entry cmp fs k p))
        → AllByRecursion P (match_ordering r ((k, p) ∷ f ∷ fs) ((f.0, p) ∷ fs) (f ∷ insert_entry cmp fs k p))
    step Less n rest = (new, all)
    step Equal n rest = absurd (some_none n)
    step Greater n rest = (all.0, rest n)

pub all_of : {X : Type 0} (P Q : X → Type 0) (xs : List X) → ((x : X) → P x → Q x) → AllByRecursion P xs
    → AllByRecursion Q xs
all_of P Q [] f all = tt
all_of P Q (x ∷ xs) f all = (f x all.0, all_of P Q xs f all.1)

-- a key that the tree has, or lacks
pub some_of : {X : Type 0} (r : Option X) → is_some r ≡ true → (x : X) × (r ≡ Some x)
some_of None e = cc
some_of (Some x) e = (x, refl)

pub none_of : {X : Type 0} (r : Option X) → is_some r ≡ false → r ≡ None
none_of None e = refl
none_of (Some x) e = cc

module _ {K V : Type 0} {R : K → K → Ordering} (o : IsTotalOrder R) (exact : IsAntisymmetric R) {cmp : K → K → Ordering}
    (keyed : (a b : K) → cmp a b ≡ R a b) where
  -- a key that the tree lacks is no entry's
  pub gathered_none : (items : List (K × V)) (fs : List (K × ℕ)) → AreGathered R items fs
      → IsStrictlySortedBy cmp (keys_of fs) → (k : K) → lookup (is_at (cmp k)) fs ≡ None → find R k items ≡ None
  gathered_none items fs all sorted k none =
      let there = placed o exact keyed items fs k 0 all.led sorted none in
      none_found o exact items (values_of fs) all.index k there.at there.gap

  -- and one that it has is
  pub gathered_some : (items : List (K × V)) (fs : List (K × ℕ)) → AreGathered R items fs → (k : K) (p : ℕ)
      → lookup (is_at (cmp k)) fs ≡ Some p → find R k items ≡ None → ⊥
  gathered_some items fs all k p found none =
      nowhere_found o exact items k none p (led_to o exact keyed items fs k p all.led found)

  -- a new entry is added after the others
  pub gathered_pushed : (items : List (K × V)) (fs : List (K × ℕ)) → AreGathered R items fs
      → IsStrictlySortedBy cmp (keys_of fs) → (e : K × V) → lookup (is_at (cmp e.0)) fs ≡ None
      → AreGathered R (items ++ e ∷ []) (insert_entry cmp fs e.0 (length items))
  gathered_pushed items fs all sorted e none =
      let there = placed o exact keyed items fs e.0 (length items) all.led sorted none in
      record {
        index = index_pushed o exact items e (values_of fs) (values_of (insert_entry cmp fs e.0 (length items)))
            all.index (record { at = there.at; gap = there.gap; is = there.is });
        led = all_inserted (λ f. HasKeyAt R (items ++ e ∷ []) f.0 f.1) cmp fs e.0 (length items) none
            (all_of (λ f. HasKeyAt R items f.0 f.1) (λ f. HasKeyAt R (items ++ e ∷ []) f.0 f.1) fs
            (λ f has. (has.0, get-push items e f.1 (slice_get_within items f.1 (f.0, has.0) has.1) ∙ has.1)) all.led)
            (e.1, get-push_last items e);
      }

  -- the same of lists as they are seen
  pub pushed_gathered : {E : Type 0} (view : E → K × V) (list : List E) (e : E) (k : K) (n : ℕ) (fs : List (K × ℕ))
      → k ≡ (view e).0 → n ≡ length list → AreGathered R (map view list) fs → IsStrictlySortedBy cmp (keys_of fs)
      → lookup (is_at (cmp k)) fs ≡ None → (all : List E) → all ≡ list ++ e ∷ [] → (new : List (K × ℕ))
      → new ≡ insert_entry cmp fs k n → AreGathered R (map view all) new
  pushed_gathered view list e k n fs key many gathered sorted none all more new inserted =
      subst (λ gs. AreGathered R (map view all) gs)
      (sym (inserted ∙ (λ j. insert_entry cmp fs (key j) ((many ∙ sym (length-map list view)) j))))
      (subst (λ es. AreGathered R es (insert_entry cmp fs (view e).0 (length (map view list))))
      (sym (ap (map view) more ∙ map_push view list e))
      (gathered_pushed (map view list) fs gathered sorted (view e)
      (subst (λ q. lookup (is_at (cmp q)) fs ≡ None) key none)))
