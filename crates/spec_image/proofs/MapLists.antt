-- Laws of maps made of a list of entries, and of the list that a map has: `from_entries`, `map_values`, and what holds
-- for each entry. In each section `o` states that the order of the keys is total, and `exact` that only equal keys tie
-- in it.
use Rattle.std.proofs.Common.{◌≡◌, ℕ, zero, suc, ◌<◌, Bool, true, false, cond, ◌&&◌, T, List, [], ◌∷◌, ◌++◌, map}
use Rattle.std.proofs.Common.{length, Option, Some, None, option_map, get_or, refl, sym, ap, subst, ◌∙◌, Ordering, Less}
use Rattle.std.proofs.Common.{Equal, Greater, arith}
use mathlib.Core.List.{map-map}
use Rattle.std.specs.Ordering.{eq_by_cmp, is_eq, is_lt}
use Rattle.std.specs.Option.{option_or}
use Rattle.std.specs.Cmp.{IsTotalOrder, Equal-is}
use Rattle.std.specs.FinMap.{IsAntisymmetric}
use Rattle.std.specs.FinMap.Entries.{find, put, is_sorted, below_all, by_order, find_tied, find-append}
use Rattle.std.specs.List.{AllByRecursion, Contains}
use Rattle.spec_image.specs.Maps.{FinMap, entries, get, insert, remove, keys, values, from_entries, map_values}
use Rattle.spec_image.specs.Maps.{EachOnce}
use Rattle.spec_image.proofs.MapLaws.{some_same, some_none, at_itself, tied, entries_sorted, get-entries}
use Rattle.spec_image.proofs.MapLaws.{entries-empty, entries-insert, get-empty, get-insert, get-remove, same_map}

both : (a b : Bool) → T (a && b) → T a × T b
both true b h = (tt, h)
both false b h = absurd h

-- Lists of entries, in any order of the keys.

module _ {K X : Type 0} (R : K → K → Ordering) where
  -- a key below each key of a list is not found in it
  pub find_below : (q : K) (es : List (K × X)) → T (below_all R q es) → find R q es ≡ None
  find_below q [] h = refl
  find_below q (e ∷ es) h = step (R q e.0) (both _ _ h).0 ∙ find_below q es (both _ _ h).1
    where
      step : (r : Ordering) → T (is_lt r) → cond (is_eq r) (Some e.1) (find R q es) ≡ find R q es
      step Less l = refl
      step Equal l = absurd l
      step Greater l = absurd l

  pub EachOnce-sorted : (es : List (K × X)) → T (is_sorted R es) → EachOnce R es
  EachOnce-sorted [] h = tt
  EachOnce-sorted (e ∷ es) h = (find_below e.0 es (both _ _ h).0, EachOnce-sorted es (both _ _ h).1)

  pub find-append_both : (es fs : List (K × X)) (q : K) → find R q (es ++ fs) ≡ option_or (find R q es) (find R q fs)
  find-append_both [] fs q = refl
  find-append_both (e ∷ es) fs q = elim (eq_by_cmp R q e.0) as (λ b. cond b (Some e.1) (find R q (es ++ fs))
      ≡ option_or (cond b (Some e.1) (find R q es)) (find R q fs)) [ true ↦ refl | false ↦ find-append_both es fs q ]

  pub find_tail_none : (e : K × X) (es : List (K × X)) (q : K) → find R q (e ∷ es) ≡ None → find R q es ≡ None
  find_tail_none e es q = elim (eq_by_cmp R q e.0) as (λ b. cond b (Some e.1) (find R q es) ≡ None
      → find R q es ≡ None) [ true ↦ λ n. absurd (some_none n) | false ↦ λ n. n ]

  module _ {Y : Type 0} (f : X → Y) where
    pub find-mapped : (es : List (K × X)) (q : K) → find R q (map (λ e. (e.0, f e.1)) es) ≡ option_map f (find R q es)
    find-mapped [] q = refl
    find-mapped (e ∷ es) q = elim (eq_by_cmp R q e.0) as (λ b. cond b (Some (f e.1))
        (find R q (map (λ e. (e.0, f e.1)) es)) ≡ option_map f (cond b (Some e.1) (find R q es)))
        [ true ↦ refl | false ↦ find-mapped es q ]

    unmapped : (x : Option X) → option_map f x ≡ None → x ≡ None
    unmapped None e = refl
    unmapped (Some x) e = cc

    -- whether a key comes twice depends only on the keys
    pub EachOnce-map : (es : List (K × X)) → EachOnce R es → EachOnce R (map (λ e. (e.0, f e.1)) es)
    EachOnce-map [] u = tt
    EachOnce-map (e ∷ es) u = (find-mapped es e.0 ∙ ap (option_map f) u.0, EachOnce-map es u.1)

    pub EachOnce-from_map : (es : List (K × X)) → EachOnce R (map (λ e. (e.0, f e.1)) es) → EachOnce R es
    EachOnce-from_map [] u = tt
    EachOnce-from_map (e ∷ es) u = (unmapped (find R e.0 es) (sym (find-mapped es e.0) ∙ u.0), EachOnce-from_map es u.1)

pub EachOnce-entries : {K X : Type 0} {R : K → K → Ordering} (m : FinMap R X) → EachOnce R (entries m)
EachOnce-entries {R = R} m = EachOnce-sorted R (entries m) (entries_sorted m)

-- Lists of entries, if the order is total.

module _ {K X : Type 0} {R : K → K → Ordering} (o : IsTotalOrder R) where
  pub find_first : (e : K × X) (es : List (K × X)) → find R e.0 (e ∷ es) ≡ Some e.1
  find_first e es = ap (λ b. cond b (Some e.1) (find R e.0 es)) (at_itself o e.0)

  pub find_later : (e : K × X) (es : List (K × X)) (q : K) (x : X) → find R e.0 es ≡ None → find R q es ≡ Some x
      → find R q (e ∷ es) ≡ Some x
  find_later e es q x none is = step (eq_by_cmp R q e.0) refl
    where
      step : (b : Bool) → eq_by_cmp R q e.0 ≡ b → cond b (Some e.1) (find R q es) ≡ Some x
      step true t = absurd (some_none (sym is ∙ sym (find_tied R o q e.0 ((Equal-is (R q e.0)).0 t) es) ∙ none))
      step false t = is

  -- what holds for each look-up holds for each entry
  pub each_entry : (P : K → X → Type 0) (es : List (K × X)) → EachOnce R es
      → ((q : K) (x : X) → find R q es ≡ Some x → P q x) → AllByRecursion (λ e. P e.0 e.1) es
  each_entry P [] u h = tt
  each_entry P (e ∷ es) u h = (
    h e.0 e.1 (find_first e es),
    each_entry P es u.1 (λ q x is. h q x (find_later e es q x u.0 is)),
  )

  pub each_in_entries : (P : K → X → Type 0) (m : FinMap R X) → ((q : K) (x : X) → get m q ≡ Some x → P q x)
      → AllByRecursion (λ e. P e.0 e.1) (entries m)
  each_in_entries P m h = each_entry P (entries m) (EachOnce-entries m) (λ q x is. h q x (get-entries m q ∙ is))

  pub find-contains : (es : List (K × X)) (q : K) (x : X) → EachOnce R es → Contains es (q, x) → find R q es ≡ Some x
  find-contains es q x u c = subst (λ (e : K × X). find R e.0 es ≡ Some e.1) c.2
      (at es (each_entry (λ k y. find R k es ≡ Some y) es u (λ k y is. is)) c.0 c.1)
    where
      at : (fs : List (K × X)) → AllByRecursion (λ e. find R e.0 es ≡ Some e.1) fs → (n : ℕ) → n < length fs
          → find R (get_or fs n (q, x)).0 es ≡ Some (get_or fs n (q, x)).1
      at [] a n l = absurd (omega arith)
      at (f ∷ fs) a zero l = a.0
      at (f ∷ fs) a (suc n) l = at fs a.1 n (omega arith)

  pub get-from_entries : (es : List (K × X)) (q : K) → get (from_entries {R = R} es) q ≡ find R q es
  get-from_entries [] q = get-empty R X q
  get-from_entries (e ∷ es) q = get-insert o (from_entries es) e.0 e.1 q
      ∙ ap (cond (eq_by_cmp R q e.0) (Some e.1)) (get-from_entries es q)

  -- a list whose keys rise is the list of its map
  pub entries-from_sorted : (es : List (K × X)) → T (is_sorted R es) → entries (from_entries {R = R} es) ≡ es
  entries-from_sorted [] h = entries-empty R X
  entries-from_sorted (e ∷ es) h = entries-insert o (from_entries es) e.0 e.1
      ∙ ap (put R e.0 e.1) (entries-from_sorted es (both _ _ h).1) ∙ in_front es (both _ _ h).0
    where
      step : (r : Ordering) (f : K × X) (fs gs : List (K × X)) → T (is_lt r)
          → by_order r (e ∷ f ∷ fs) ((f.0, e.1) ∷ fs) (f ∷ gs) ≡ e ∷ f ∷ fs
      step Less f fs gs l = refl
      step Equal f fs gs l = absurd l
      step Greater f fs gs l = absurd l

      in_front : (fs : List (K × X)) → T (below_all R e.0 fs) → put R e.0 e.1 fs ≡ e ∷ fs
      in_front [] b = refl
      in_front (f ∷ fs) b = step (R e.0 f.0) f fs (put R e.0 e.1 fs) (both _ _ b).0

-- F of each value.

module _ {K X Y : Type 0} {R : K → K → Ordering} (o : IsTotalOrder R) (f : X → Y) where
  below-map : (k : K) (es : List (K × X)) → below_all R k (map (λ e. (e.0, f e.1)) es) ≡ below_all R k es
  below-map k [] = refl
  below-map k (e ∷ es) = ap (λ b. is_lt (R k e.0) && b) (below-map k es)

  is_sorted-map : (es : List (K × X)) → is_sorted R (map (λ e. (e.0, f e.1)) es) ≡ is_sorted R es
  is_sorted-map [] = refl
  is_sorted-map (e ∷ es) = λ i. below-map e.0 es i && is_sorted-map es i

  pub entries-map_values : (m : FinMap R X) → entries (map_values f m) ≡ map (λ e. (e.0, f e.1)) (entries m)
  entries-map_values m = entries-from_sorted o _ (subst T (sym (is_sorted-map (entries m))) (entries_sorted m))

  pub keys-map_values : (m : FinMap R X) → keys (map_values f m) ≡ keys m
  keys-map_values m = ap (map (λ e. e.0)) (entries-map_values m) ∙ map-map _ _ (entries m)

  pub values-map_values : (m : FinMap R X) → values (map_values f m) ≡ map f (values m)
  values-map_values m = ap (map (λ e. e.1)) (entries-map_values m) ∙ map-map _ _ (entries m)
      ∙ sym (map-map _ _ (entries m))

  pub get-map_values : (m : FinMap R X) (q : K) → get (map_values f m) q ≡ option_map f (get m q)
  get-map_values m q = get-from_entries o _ q ∙ find-mapped R f (entries m) q
      ∙ ap (option_map f) (sym (get-entries m q))

  pub map_values-map_values : {Z : Type 0} (g : Y → Z) (m : FinMap R X)
      → map_values g (map_values f m) ≡ map_values (λ x. g (f x)) m
  map_values-map_values g m = ap (λ es. from_entries (map (λ e. (e.0, g e.1)) es)) (entries-map_values m)
      ∙ ap from_entries (map-map _ _ (entries m))

module _ {K X : Type 0} {R : K → K → Ordering} (o : IsTotalOrder R) (exact : IsAntisymmetric R) where
  -- what holds for each entry holds for what is found
  pub found_holds : (P : K → X → Type 0) (es : List (K × X)) (q : K) (x : X) → AllByRecursion (λ e. P e.0 e.1) es
      → find R q es ≡ Some x → P q x
  found_holds P [] q x a h = absurd (some_none (sym h))
  found_holds P (e ∷ es) q x a h = step (eq_by_cmp R q e.0) refl h (λ r. found_holds P es q x a.1 r)
    where
      step : (b : Bool) → eq_by_cmp R q e.0 ≡ b → cond b (Some e.1) (find R q es) ≡ Some x
          → (find R q es ≡ Some x → P q x) → P q x
      step true t is rest = subst (λ y. P q y) (some_same is) (subst (λ k. P k e.1) (sym (tied o exact q e.0 t)) a.0)
      step false t is rest = rest is

  pub get-holds : (P : K → X → Type 0) (m : FinMap R X) → AllByRecursion (λ e. P e.0 e.1) (entries m) → (q : K) (x : X)
      → get m q ≡ Some x → P q x
  get-holds P m a q x h = found_holds P (entries m) q x a (sym (get-entries m q) ∙ h)

  pub each_in_map : (P : K → X → Type 0) (es : List (K × X)) → AllByRecursion (λ e. P e.0 e.1) es → (q : K) (x : X)
      → get (from_entries {R = R} es) q ≡ Some x → P q x
  each_in_map P es a q x h = found_holds P es q x a (sym (get-from_entries o es q) ∙ h)

  pub contains-found : (es : List (K × X)) (q : K) (x : X) → find R q es ≡ Some x → Contains es (q, x)
  contains-found [] q x is = absurd (some_none (sym is))
  contains-found (e ∷ es) q x is = step (eq_by_cmp R q e.0) refl is (contains-found es q x)
    where
      step : (b : Bool) → eq_by_cmp R q e.0 ≡ b → cond b (Some e.1) (find R q es) ≡ Some x
          → (find R q es ≡ Some x → Contains es (q, x)) → Contains (e ∷ es) (q, x)
      step true t h rest = (0, omega arith, λ i. (sym (tied o exact q e.0 t) i, some_same h i))
      step false t h rest = let c = rest h in (suc c.0, omega arith, c.2)

  pub from_entries-entries : (m : FinMap R X) → from_entries (entries m) ≡ m
  from_entries-entries m = same_map o exact _ _ (λ q. get-from_entries o (entries m) q ∙ sym (get-entries m q))

  -- to push an entry whose key is new is to insert it, and one whose key is not new is lost
  pub from_entries_push : (es : List (K × X)) (k : K) (v : X) → find R k es ≡ None
      → from_entries {R = R} (es ++ (k, v) ∷ []) ≡ insert (from_entries es) k v
  from_entries_push es k v none = same_map o exact _ _ (λ q. get-from_entries o _ q ∙ find-append R o es k v q none
      ∙ sym (get-insert o _ k v q ∙ ap (cond (eq_by_cmp R q k) (Some v)) (get-from_entries o es q)))

  module _ {Y : Type 0} (f : X → Y) where
    pub mapped-from_entries : (es : List (K × X)) → map_values f (from_entries {R = R} es)
        ≡ from_entries (map (λ e. (e.0, f e.1)) es)
    mapped-from_entries es = same_map o exact _ _ (λ q. get-map_values o f (from_entries es) q
        ∙ ap (option_map f) (get-from_entries o es q)
        ∙ sym (get-from_entries o (map (λ e. (e.0, f e.1)) es) q ∙ find-mapped R f es q))

    pub map_values-insert : (m : FinMap R X) (k : K) (v : X)
        → map_values f (insert m k v) ≡ insert (map_values f m) k (f v)
    map_values-insert m k v = same_map o exact _ _
        (λ q. simp (get-map_values o f, get-insert {X = X} o, get-insert {X = Y} o)
        (inside (eq_by_cmp R q k) (get m q)))
      where
        inside : (b : Bool) (x : Option X) → option_map f (cond b (Some v) x) ≡ cond b (Some (f v)) (option_map f x)
        inside true x = refl
        inside false x = refl

    pub map_values-remove : (m : FinMap R X) (k : K) → map_values f (remove m k) ≡ remove (map_values f m) k
    map_values-remove m k = same_map o exact _ _
        (λ q. simp (get-map_values o f, get-remove {X = X} o, get-remove {X = Y} o)
        (inside (eq_by_cmp R q k) (get m q)))
      where
        inside : (b : Bool) (x : Option X) → option_map f (cond b None x) ≡ cond b None (option_map f x)
        inside true x = refl
        inside false x = refl

    -- two maps whose values look alike under f are equal, if f distinguishes their values
    pub same_under : (m n : FinMap R X) → map_values f m ≡ map_values f n
        → ((q : K) (x y : X) → get m q ≡ Some x → get n q ≡ Some y → f x ≡ f y → x ≡ y) → m ≡ n
    same_under m n e differ = same_map o exact m n (λ q. join q (get m q) (get n q) refl refl
        (sym (get-map_values o f m q) ∙ ap (λ a. get a q) e ∙ get-map_values o f n q))
      where
        join : (q : K) (a b : Option X) → get m q ≡ a → get n q ≡ b → option_map f a ≡ option_map f b → a ≡ b
        join q None None p r h = refl
        join q None (Some y) p r h = cc
        join q (Some x) None p r h = cc
        join q (Some x) (Some y) p r h = ap Some (differ q x y p r (some_same h))
