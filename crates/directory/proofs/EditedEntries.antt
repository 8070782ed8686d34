-- The entries of a chain after an edit: which they are, that they are a chain's, and their map.
-- In each section `o` states that the order of the keys is total, and `exact` that only equal keys tie in it.
use Rattle.std.proofs.Common.{◌≡◌, ℕ, zero, suc, ◌+◌, ◌-◌, ◌*◌, ◌<◌, ◌≤◌, Bool, true, false, cond, List, [], ◌∷◌}
use Rattle.std.proofs.Common.{◌++◌, length, take, drop, slice_get, slice_set, swap_remove, get_or, Option, Some, None}
use Rattle.std.proofs.Common.{refl, sym, ap, subst, ◌∙◌, Ordering, arith, length-append, append-nil, append_assoc}
use Rattle.std.proofs.Common.{◌⊎◌, inl, inr}
use Rattle.std.proofs.lemmas.List.{set_split, length-set, drop_more, drop_all, take-append-drop}
use Rattle.std.specs.List.{AllByRecursion}
use Rattle.std.specs.Ordering.{eq_by_cmp}
use Rattle.std.specs.Option.{option_or}
use Rattle.std.specs.Cmp.{IsTotalOrder}
use Rattle.std.specs.FinMap.{IsAntisymmetric}
use Rattle.std.specs.FinMap.Entries.{find}
use Rattle.spec_image.specs.Common.{directory_cost, EachOnce, times, from_entries, insert, remove}
use Rattle.spec_image.proofs.Common.{all_without, all_around, EachOnce-without, EachOnce-around, EachOnce-push}
use Rattle.spec_image.proofs.Common.{from_entries_around, from_entries_without, from_entries_replaced}
use Rattle.spec_image.proofs.Common.{from_entries_moved, some_none, some_same, at_itself, find-append_both}
use Rattle.spec_image.proofs.Common.{from_entries_push, times-append}
use Rattle.changeset.specs.Common.{times_head, times_tail}
use Rattle.std.proofs.lemmas.Bool.{cases_eq}
use Rattle.directory.specs.Common.{IsChain, StandsAt, inserted, renamed, removed, last_first}

-- a list at one of its elements
pub at_place : {X : Type 0} (xs : List X) (i : ℕ) (x : X) → slice_get xs i ≡ Some x
    → xs ≡ take i xs ++ x ∷ drop (suc i) xs
at_place [] i x is = absurd (some_none (sym is))
at_place (y ∷ ys) zero x is = ap (λ z. z ∷ ys) (some_same is)
at_place (y ∷ ys) (suc i) x is = ap (λ zs. y ∷ zs) (at_place ys i x is)

-- the last element moves into the place of one that is taken out
pub swap_removed : {X : Type 0} (xs : List X) (i : ℕ) (d : X) → i < length xs
    → swap_remove xs i d ≡ take i xs ++ last_first (drop (suc i) xs)
swap_removed [] i d h = absurd (omega arith)
swap_removed (x ∷ []) zero d h = refl
swap_removed (x ∷ []) (suc i) d h = absurd (omega arith)
swap_removed (x ∷ y ∷ ys) zero d h =
    let last = get_or (y ∷ ys) (length ys) d in
    let rest : drop (length ys) (y ∷ ys) ≡ last ∷ [] = drop_more (y ∷ ys) (length ys) d (omega arith)
    ∙ ap (λ zs. last ∷ zs) (drop_all (length ys + 1) (y ∷ ys) (omega arith)) in
    let less : length (x ∷ y ∷ ys) - 1 ≡ suc (length ys) = omega arith in
    let less' : length (y ∷ ys) - 1 ≡ length ys = omega arith in
    (λ j. take (less j) (get_or (x ∷ y ∷ ys) (less j) d ∷ y ∷ ys))
    ∙ ap (λ zs. zs ++ take (length ys) (y ∷ ys)) (sym rest)
    ∙ (λ j. drop (sym less' j) (y ∷ ys) ++ take (sym less' j) (y ∷ ys))
swap_removed (x ∷ y ∷ ys) (suc i) d h =
    let less : length (x ∷ y ∷ ys) - 1 ≡ suc (length ys) = omega arith in
    let less' : length (y ∷ ys) - 1 ≡ length ys = omega arith in
    (λ j. take (less j) (x ∷ slice_set (y ∷ ys) i (get_or (x ∷ y ∷ ys) (less j) d)))
    ∙ (λ j. x ∷ take (sym less' j) (slice_set (y ∷ ys) i (get_or (y ∷ ys) (sym less' j) d)))
    ∙ ap (λ zs. x ∷ zs) (swap_removed (y ∷ ys) i d (omega arith))

-- A list that ends with `last`, which `last_first` moves to the front.
record HasLast {X : Type 0} (xs : List X) : Type 0 where
  front : List X
  last : X
  is : xs ≡ front ++ last ∷ []
  moved : last_first xs ≡ last ∷ front

ends : {X : Type 0} (xs : List X) → (xs ≡ []) ⊎ HasLast xs
ends [] = inl refl
ends (y ∷ ys) =
    let last = get_or (y ∷ ys) (length ys) y in
    let less : length (y ∷ ys) - 1 ≡ length ys = omega arith in
    let rest : drop (length ys) (y ∷ ys) ≡ last ∷ [] = drop_more (y ∷ ys) (length ys) y (omega arith)
    ∙ ap (λ zs. last ∷ zs) (drop_all (length ys + 1) (y ∷ ys) (omega arith)) in
    inr (record {
      front = take (length ys) (y ∷ ys);
      last = last;
      is = sym (take-append-drop (length ys) (y ∷ ys)) ∙ ap (λ zs. take (length ys) (y ∷ ys) ++ zs) rest;
      moved = (λ j. drop (less j) (y ∷ ys) ++ take (less j) (y ∷ ys)) ∙ ap (λ zs. zs ++ take (length ys) (y ∷ ys)) rest;
    })

moved_all : {X : Type 0} (P : X → Type 0) (us vs : List X) → AllByRecursion P (us ++ vs)
    → AllByRecursion P (us ++ last_first vs)
moved_all P us vs all = step (ends vs)
  where
    step : (vs ≡ []) ⊎ HasLast vs → AllByRecursion P (us ++ last_first vs)
    step (inl none) = subst (λ zs. AllByRecursion P (us ++ last_first zs)) (sym none)
        (subst (λ zs. AllByRecursion P (us ++ zs)) none all)
    step (inr e) =
        let parts = all_without P (us ++ e.front) e.last []
        (subst (AllByRecursion P) (sym (append_assoc us e.front (e.last ∷ [])))
        (subst (λ zs. AllByRecursion P (us ++ zs)) e.is all)) in
        subst (λ zs. AllByRecursion P (us ++ zs)) (sym e.moved)
        (all_around P us e.last e.front parts.0 (subst (AllByRecursion P) (append-nil (us ++ e.front)) parts.1))

module _ {K V : Type 0} {R : K → K → Ordering} (o : IsTotalOrder R) where
  -- the last entry of a list without its last one
  last_apart : (us vs : List (K × V)) (e : HasLast vs) → EachOnce R (us ++ vs)
      → (find R e.last.0 (us ++ e.front) ≡ None) × EachOnce R (us ++ e.front)
  last_apart us vs e once =
      let parts = EachOnce-without o (us ++ e.front) e.last []
      (subst (EachOnce R) (sym (append_assoc us e.front (e.last ∷ [])))
      (subst (λ zs. EachOnce R (us ++ zs)) e.is once)) in
      let same = append-nil (us ++ e.front) in
      (ap (find R e.last.0) (sym same) ∙ parts.0, subst (EachOnce R) same parts.1)

  moved_once : (us vs : List (K × V)) → EachOnce R (us ++ vs) → EachOnce R (us ++ last_first vs)
  moved_once us vs once = step (ends vs)
    where
      step : (vs ≡ []) ⊎ HasLast vs → EachOnce R (us ++ last_first vs)
      step (inl none) = subst (λ zs. EachOnce R (us ++ last_first zs)) (sym none)
          (subst (λ zs. EachOnce R (us ++ zs)) none once)
      step (inr e) = let apart = last_apart us vs e once in
          subst (λ zs. EachOnce R (us ++ zs)) (sym e.moved) (EachOnce-around o us e.last e.front apart.0 apart.1)

  moved_map : (exact : IsAntisymmetric R) (us vs : List (K × V)) → EachOnce R (us ++ vs)
      → from_entries {R = R} (us ++ last_first vs) ≡ from_entries (us ++ vs)
  moved_map exact us vs once = step (ends vs)
    where
      step : (vs ≡ []) ⊎ HasLast vs → from_entries {R = R} (us ++ last_first vs) ≡ from_entries (us ++ vs)
      step (inl none) = ap (λ zs. from_entries (us ++ last_first zs)) none
          ∙ ap (λ zs. from_entries (us ++ zs)) (sym none)
      step (inr e) =
          let apart = last_apart us vs e once in
          ap (λ zs. from_entries (us ++ zs)) e.moved ∙ from_entries_moved o exact us e.last e.front apart.0
          ∙ ap from_entries (append_assoc us e.front (e.last ∷ [])) ∙ ap (λ zs. from_entries (us ++ zs)) (sym e.is)

module _ {K V : Type 0} {R : K → K → Ordering} (o : IsTotalOrder R) where
  same_key : (k : K) (y : K × V) (v : V) → Some y ≡ Some (k, v) → eq_by_cmp R k y.0 ≡ true
  same_key k y v is = ap (λ (z : K × V). eq_by_cmp R k z.0) (some_same is) ∙ at_itself o k

  other_key : (b : Bool) (v : V) (x : Option V) → cond b (Some v) x ≡ None → (b ≡ false) × (x ≡ None)
  other_key true v x n = absurd (some_none n)
  other_key false v x n = (refl, n)

  renamed_at : (items : List (K × V)) (i : ℕ) (k : K) (v : V) (e : K × V) → slice_get items i ≡ Some (k, v)
      → find R k (take i items) ≡ None → renamed R items k e ≡ slice_set items i e
  renamed_at [] i k v e is none = absurd (some_none (sym is))
  renamed_at (y ∷ ys) zero k v e is none = ap (λ b. cond b (e ∷ ys) (y ∷ renamed R ys k e)) (same_key k y v is)
  renamed_at (y ∷ ys) (suc i) k v e is none =
      let first = other_key (eq_by_cmp R k y.0) y.1 (find R k (take i ys)) none in
      ap (λ b. cond b (e ∷ ys) (y ∷ renamed R ys k e)) first.0 ∙ ap (λ zs. y ∷ zs) (renamed_at ys i k v e is first.1)

  pub renamed_is : (items : List (K × V)) (i : ℕ) (k : K) (v : V) (e : K × V) → StandsAt R items k v i
      → renamed R items k e ≡ slice_set items i e
  renamed_is items i k v e at = renamed_at items i k v e at.is at.before

  removed_at : (items : List (K × V)) (i : ℕ) (k : K) (v : V) → slice_get items i ≡ Some (k, v)
      → find R k (take i items) ≡ None → removed R items k ≡ take i items ++ last_first (drop (suc i) items)
  removed_at [] i k v is none = absurd (some_none (sym is))
  removed_at (y ∷ ys) zero k v is none = ap (λ b. cond b (last_first ys) (y ∷ removed R ys k)) (same_key k y v is)
  removed_at (y ∷ ys) (suc i) k v is none =
      let first = other_key (eq_by_cmp R k y.0) y.1 (find R k (take i ys)) none in
      ap (λ b. cond b (last_first ys) (y ∷ removed R ys k)) first.0 ∙ ap (λ zs. y ∷ zs) (removed_at ys i k v is first.1)

  pub removed_is : (items : List (K × V)) (i : ℕ) (k : K) (v : V) → StandsAt R items k v i
      → removed R items k ≡ take i items ++ last_first (drop (suc i) items)
  removed_is items i k v at = removed_at items i k v at.is at.before

  inserted_at : (items : List (K × V)) (i : ℕ) (e : K × V) (v : V) → slice_get items i ≡ Some (e.0, v)
      → find R e.0 (take i items) ≡ None → inserted R items e ≡ slice_set items i e
  inserted_at [] i e v is none = absurd (some_none (sym is))
  inserted_at (y ∷ ys) zero e v is none = ap (λ b. cond b (e ∷ ys) (y ∷ inserted R ys e)) (same_key e.0 y v is)
  inserted_at (y ∷ ys) (suc i) e v is none =
      let first = other_key (eq_by_cmp R e.0 y.0) y.1 (find R e.0 (take i ys)) none in
      ap (λ b. cond b (e ∷ ys) (y ∷ inserted R ys e)) first.0 ∙ ap (λ zs. y ∷ zs) (inserted_at ys i e v is first.1)

  pub inserted_is : (items : List (K × V)) (i : ℕ) (e : K × V) (v : V) → StandsAt R items e.0 v i
      → inserted R items e ≡ slice_set items i e
  inserted_is items i e v at = inserted_at items i e v at.is at.before

  -- an entry with a new key is the last one
  pub inserted_new : (items : List (K × V)) (e : K × V) → find R e.0 items ≡ None → inserted R items e ≡ items ++ e ∷ []
  inserted_new [] e none = refl
  inserted_new (y ∷ ys) e none =
      let first = other_key (eq_by_cmp R e.0 y.0) y.1 (find R e.0 ys) none in
      ap (λ b. cond b (e ∷ ys) (y ∷ inserted R ys e)) first.0 ∙ ap (λ zs. y ∷ zs) (inserted_new ys e first.1)

  -- a key that is at one place is nowhere else
  pub not_elsewhere : (items : List (K × V)) (i : ℕ) (k : K) (v : V) → EachOnce R items → StandsAt R items k v i
      → find R k (take i items ++ drop (suc i) items) ≡ None
  not_elsewhere items i k v once at = (EachOnce-without o (take i items) (k, v) (drop (suc i) items)
      (subst (EachOnce R) (at_place items i (k, v) at.is) once)).0

  absent_parts : (x y : Option V) → option_or x y ≡ None → (x ≡ None) × (y ≡ None)
  absent_parts None y n = (refl, n)
  absent_parts (Some x) y n = absurd (some_none n)

  -- a key that is nowhere is nowhere else
  pub absent_elsewhere : (items : List (K × V)) (i : ℕ) (x : K × V) (q : K) → slice_get items i ≡ Some x
      → find R q items ≡ None → find R q (take i items ++ drop (suc i) items) ≡ None
  absent_elsewhere items i x q is none =
      let parts = absent_parts (find R q (take i items)) (find R q (x ∷ drop (suc i) items))
      (sym (find-append_both R (take i items) (x ∷ drop (suc i) items) q) ∙ ap (find R q) (sym (at_place items i x is))
      ∙ none) in
      let behind = other_key (eq_by_cmp R q x.0) x.1 (find R q (drop (suc i) items)) parts.1 in
      find-append_both R (take i items) (drop (suc i) items) q ∙ (λ j. option_or (parts.0 j) (behind.1 j))

  module _ (IsEntry : K × V → Type 0) where
    -- a chain with one entry in place of another is a chain
    pub chain_replaced : (ns : List ℕ) (items : List (K × V)) (i : ℕ) (x e : K × V)
        → IsChain R IsEntry (record { blocks = ns; entries = items }) → i < length items → slice_get items i ≡ Some x
        → find R e.0 (take i items ++ drop (suc i) items) ≡ None → IsEntry e
        → IsChain R IsEntry (record { blocks = ns; entries = slice_set items i e })
    chain_replaced ns items i x e c inside is none good =
        let split = set_split items i e inside in
        let same = length-set items i e in
        let counted = c.counted in
        record {
          counted = rw same counted;
          are_entries = subst (AllByRecursion IsEntry) (sym split)
              (all_around IsEntry (take i items) e (drop (suc i) items) good
              (all_without IsEntry (take i items) x (drop (suc i) items)
              (subst (AllByRecursion IsEntry) (at_place items i x is) c.are_entries)).1);
          each_once = subst (EachOnce R) (sym split)
              (EachOnce-around o (take i items) e (drop (suc i) items) none
              (EachOnce-without o (take i items) x (drop (suc i) items)
              (subst (EachOnce R) (at_place items i x is) c.each_once)).1);
          blocks_once = c.blocks_once;
        }

    all_more : (items : List (K × V)) (e : K × V) → AllByRecursion IsEntry items → IsEntry e
        → AllByRecursion IsEntry (items ++ e ∷ [])
    all_more [] e all good = (good, tt)
    all_more (x ∷ xs) e all good = (all.0, all_more xs e all.1 good)

    -- one with one more entry, if the last block has room
    pub chain_appended : (ns : List ℕ) (items : List (K × V)) (e : K × V)
        → IsChain R IsEntry (record { blocks = ns; entries = items }) → (length items ≡ 42 * length ns → ⊥)
        → find R e.0 items ≡ None → IsEntry e
        → IsChain R IsEntry (record { blocks = ns; entries = items ++ e ∷ [] })
    chain_appended ns items e c room none good =
        let counted = c.counted in
        let more = length-append items (e ∷ []) in
        record {
          counted = omega arith;
          are_entries = all_more items e c.are_entries good;
          each_once = EachOnce-push o items e.0 e.1 none c.each_once;
          blocks_once = c.blocks_once;
        }

    once_more : (ns : List ℕ) (n : ℕ) → ((m : ℕ) → times m ns ≤ 1) → times n ns ≡ 0 → (m : ℕ)
        → times m (ns ++ n ∷ []) ≤ 1
    once_more ns n once none m = by_case (cases_eq m n)
      where
        by_case : (m ≡ n) ⊎ (m ≡ n → ⊥) → times m (ns ++ n ∷ []) ≤ 1
        by_case (inl is) = let a = times_head m n [] is in let b : times m ns ≡ 0 = ap (λ k. times k ns) is ∙ none in
            omega (arith, times-append m ns (n ∷ []))
        by_case (inr other) = let a = times_tail m n [] other in omega (arith, times-append m ns (n ∷ []), once m)

    -- one with one more entry in one more block
    pub chain_grown : (ns : List ℕ) (items : List (K × V)) (n : ℕ) (e : K × V)
        → IsChain R IsEntry (record { blocks = ns; entries = items }) → length items ≡ 42 * length ns → times n ns ≡ 0
        → find R e.0 items ≡ None → IsEntry e
        → IsChain R IsEntry (record { blocks = ns ++ n ∷ []; entries = items ++ e ∷ [] })
    chain_grown ns items n e c full new none good =
        let counted = c.counted in
        let more = length-append items (e ∷ []) in
        let blocks = length-append ns (n ∷ []) in
        record {
          counted = omega arith;
          are_entries = all_more items e c.are_entries good;
          each_once = EachOnce-push o items e.0 e.1 none c.each_once;
          blocks_once = once_more ns n c.blocks_once new;
        }

    -- one with one entry fewer, and perhaps one block fewer
    pub chain_removed : (ns ms freed : List ℕ) (items : List (K × V)) (i : ℕ) (x : K × V)
        → IsChain R IsEntry (record { blocks = ns; entries = items }) → slice_get items i ≡ Some x → ns ≡ ms ++ freed
        → length ms ≡ directory_cost (length (take i items ++ last_first (drop (suc i) items)))
        → IsChain R IsEntry (record { blocks = ms; entries = take i items ++ last_first (drop (suc i) items) })
    chain_removed ns ms freed items i x c is kept counted =
        let us = take i items in
        let vs = drop (suc i) items in
        let split = at_place items i x is in
        record {
          counted = counted;
          are_entries = moved_all IsEntry us vs
              (all_without IsEntry us x vs (subst (AllByRecursion IsEntry) split c.are_entries)).1;
          each_once = moved_once o us vs (EachOnce-without o us x vs (subst (EachOnce R) split c.each_once)).1;
          blocks_once = λ n. let whole = ap (times n) kept ∙ times-append n ms freed in let one = c.blocks_once n in
              omega arith;
        }

  module _ (exact : IsAntisymmetric R) where
    pub map_removed : (items : List (K × V)) (i : ℕ) (k : K) (v : V) → EachOnce R items → StandsAt R items k v i
        → from_entries {R = R} (take i items ++ last_first (drop (suc i) items)) ≡ remove (from_entries items) k
    map_removed items i k v once at =
        let us = take i items in
        let vs = drop (suc i) items in
        let split = at_place items i (k, v) at.is in
        let once' = subst (EachOnce R) split once in
        moved_map o exact us vs (EachOnce-without o us (k, v) vs once').1
        ∙ from_entries_without o exact us (k, v) vs once' ∙ ap (λ es. remove (from_entries es) k) (sym split)

    -- the map with one entry in place of another
    pub map_renamed : (items : List (K × V)) (i : ℕ) (k : K) (v : V) (e : K × V) → EachOnce R items
        → StandsAt R items k v i → find R e.0 (take i items ++ drop (suc i) items) ≡ None
        → from_entries {R = R} (slice_set items i e) ≡ insert (remove (from_entries items) k) e.0 e.1
    map_renamed items i k v e once at none =
        let us = take i items in
        let vs = drop (suc i) items in
        let split = at_place items i (k, v) at.is in
        ap from_entries (set_split items i e at.within)
        ∙ from_entries_around o exact us e vs none
        ∙ ap (λ m. insert m e.0 e.1) (from_entries_without o exact us (k, v) vs (subst (EachOnce R) split once))
        ∙ ap (λ es. insert (remove (from_entries es) k) e.0 e.1) (sym split)

    pub map_replaced : (items : List (K × V)) (i : ℕ) (v : V) (e : K × V) → EachOnce R items → StandsAt R items e.0 v i
        → from_entries {R = R} (slice_set items i e) ≡ insert (from_entries items) e.0 e.1
    map_replaced items i v e once at =
        let us = take i items in
        let vs = drop (suc i) items in
        let split = at_place items i (e.0, v) at.is in
        ap from_entries (set_split items i e at.within)
        ∙ from_entries_replaced o exact us e.0 v e.1 vs (subst (EachOnce R) split once)
        ∙ ap (λ es. insert (from_entries es) e.0 e.1) (sym split)

    pub map_appended : (items : List (K × V)) (e : K × V) → find R e.0 items ≡ None
        → from_entries {R = R} (items ++ e ∷ []) ≡ insert (from_entries items) e.0 e.1
    map_appended items e none = from_entries_push o exact items e.0 e.1 none
