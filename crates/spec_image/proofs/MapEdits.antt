-- The map of a list of entries after an edit of the list: an entry `e` between `us` and `vs` is put in, taken out,
-- given another value or moved. In each section `o` states that the order of the keys is total, and `exact` that only
-- equal keys tie in it.
use Rattle.std.proofs.Common.{◌≡◌, Bool, true, false, cond, List, [], ◌∷◌, ◌++◌, Option, Some, None, append-nil, refl}
use Rattle.std.proofs.Common.{sym, ap, subst, ◌∙◌, Ordering}
use Rattle.std.specs.Ordering.{eq_by_cmp}
use Rattle.std.specs.Option.{option_or}
use Rattle.std.specs.Cmp.{IsTotalOrder, eq_by_cmp_equiv, Equal-is}
use Rattle.std.specs.FinMap.{IsAntisymmetric}
use Rattle.std.specs.FinMap.Entries.{find, find_tied}
use Rattle.spec_image.specs.Maps.{insert, remove, from_entries, EachOnce}
use Rattle.spec_image.proofs.MapLaws.{some_none, get-insert, same_map, insert-insert_same, remove-insert_new}
use Rattle.spec_image.proofs.MapLists.{find-append_both, get-from_entries, from_entries_push}

module _ {K X : Type 0} {R : K → K → Ordering} (o : IsTotalOrder R) where
  -- an entry whose key is nowhere else is found wherever it is
  pub find-around : (us : List (K × X)) (e : K × X) (vs : List (K × X)) (q : K) → find R e.0 (us ++ vs) ≡ None
      → find R q (us ++ e ∷ vs) ≡ cond (eq_by_cmp R q e.0) (Some e.1) (find R q (us ++ vs))
  find-around us e vs q none = find-append_both R us (e ∷ vs) q ∙ step (eq_by_cmp R q e.0) refl
    where
      alone : (x y : Option X) → option_or x y ≡ None → option_or x (Some e.1) ≡ Some e.1
      alone None y n = refl
      alone (Some x) y n = cc

      step : (b : Bool) → eq_by_cmp R q e.0 ≡ b → option_or (find R q us) (cond b (Some e.1) (find R q vs))
          ≡ cond b (Some e.1) (find R q (us ++ vs))
      step true t = alone (find R q us) (find R q vs) (sym (find-append_both R us vs q)
          ∙ sym (find_tied R o q e.0 ((Equal-is (R q e.0)).0 t) (us ++ vs)) ∙ none)
      step false t = sym (find-append_both R us vs q)

  pub EachOnce-without : (us : List (K × X)) (e : K × X) (vs : List (K × X)) → EachOnce R (us ++ e ∷ vs)
      → (find R e.0 (us ++ vs) ≡ None) × EachOnce R (us ++ vs)
  EachOnce-without [] e vs u = u
  EachOnce-without (x ∷ us) e vs u = step (EachOnce-without us e vs u.1)
    where
      missing : (b : Bool) (r : Option X) → cond b (Some e.1) r ≡ None → (b ≡ false) × (r ≡ None)
      missing true r n = absurd (some_none n)
      missing false r n = (refl, n)

      step : (find R e.0 (us ++ vs) ≡ None) × EachOnce R (us ++ vs) → (find R e.0 ((x ∷ us) ++ vs) ≡ None)
          × EachOnce R ((x ∷ us) ++ vs)
      step rest =
          let m = missing (eq_by_cmp R x.0 e.0) (find R x.0 (us ++ vs))
          (sym (find-around us e vs x.0 rest.0) ∙ u.0) in (
            ap (λ b. cond b (Some x.1) (find R e.0 (us ++ vs))) ((eq_by_cmp_equiv o).symm e.0 x.0 ∙ m.0) ∙ rest.0,
            (m.1, rest.1),
          )

  pub EachOnce-around : (us : List (K × X)) (e : K × X) (vs : List (K × X)) → find R e.0 (us ++ vs) ≡ None
      → EachOnce R (us ++ vs) → EachOnce R (us ++ e ∷ vs)
  EachOnce-around [] e vs none u = (none, u)
  EachOnce-around (x ∷ us) e vs none u = step (eq_by_cmp R e.0 x.0) refl none (λ n. EachOnce-around us e vs n u.1)
    where
      step : (b : Bool) → eq_by_cmp R e.0 x.0 ≡ b → cond b (Some x.1) (find R e.0 (us ++ vs)) ≡ None
          → (find R e.0 (us ++ vs) ≡ None → EachOnce R (us ++ e ∷ vs)) → EachOnce R (x ∷ (us ++ e ∷ vs))
      step true t n rest = absurd (some_none n)
      step false t n rest = (
        find-around us e vs x.0 n
            ∙ ap (λ b. cond b (Some e.1) (find R x.0 (us ++ vs))) ((eq_by_cmp_equiv o).symm x.0 e.0 ∙ t) ∙ u.0,
        rest n,
      )

  pub EachOnce-push : (es : List (K × X)) (k : K) (v : X) → find R k es ≡ None → EachOnce R es
      → EachOnce R (es ++ (k, v) ∷ [])
  EachOnce-push es k v none u = EachOnce-around es (k, v) [] (ap (find R k) (append-nil es)
      ∙ none) (subst (EachOnce R) (sym (append-nil es)) u)

  module _ (exact : IsAntisymmetric R) where
    pub from_entries_alike : (es fs : List (K × X)) → ((q : K) → find R q es ≡ find R q fs)
        → from_entries {R = R} es ≡ from_entries fs
    from_entries_alike es fs alike = same_map o exact _ _ (λ q. get-from_entries o es q ∙ alike q
        ∙ sym (get-from_entries o fs q))

    -- an entry is put in
    pub from_entries_around : (us : List (K × X)) (e : K × X) (vs : List (K × X)) → find R e.0 (us ++ vs) ≡ None
        → from_entries {R = R} (us ++ e ∷ vs) ≡ insert (from_entries (us ++ vs)) e.0 e.1
    from_entries_around us e vs none = same_map o exact _ _ (λ q. get-from_entries o (us ++ e ∷ vs) q
        ∙ find-around us e vs q none
        ∙ sym (get-insert o _ e.0 e.1 q ∙ ap (cond (eq_by_cmp R q e.0) (Some e.1)) (get-from_entries o (us ++ vs) q)))

    -- an entry is taken out
    pub from_entries_without : (us : List (K × X)) (e : K × X) (vs : List (K × X)) → EachOnce R (us ++ e ∷ vs)
        → from_entries {R = R} (us ++ vs) ≡ remove (from_entries (us ++ e ∷ vs)) e.0
    from_entries_without us e vs u =
        let none = (EachOnce-without us e vs u).0 in
        sym (ap (λ m. remove m e.0) (from_entries_around us e vs none)
        ∙ remove-insert_new o exact (from_entries (us ++ vs)) e.0 e.1 (get-from_entries o (us ++ vs) e.0 ∙ none))

    -- the entry of a key gets another value
    pub from_entries_replaced : (us : List (K × X)) (k : K) (v w : X) (vs : List (K × X))
        → EachOnce R (us ++ (k, v) ∷ vs) → from_entries {R = R} (us ++ (k, w) ∷ vs)
        ≡ insert (from_entries (us ++ (k, v) ∷ vs)) k w
    from_entries_replaced us k v w vs u =
        let none = (EachOnce-without us (k, v) vs u).0 in
        from_entries_around us (k, w) vs none ∙ sym (insert-insert_same o exact (from_entries (us ++ vs)) k v w)
        ∙ ap (λ m. insert m k w) (sym (from_entries_around us (k, v) vs none))

    -- the last entry is moved to another place
    pub from_entries_moved : (us : List (K × X)) (e : K × X) (vs : List (K × X)) → find R e.0 (us ++ vs) ≡ None
        → from_entries {R = R} (us ++ e ∷ vs) ≡ from_entries ((us ++ vs) ++ e ∷ [])
    from_entries_moved us e vs none = from_entries_around us e vs none
        ∙ sym (from_entries_push o exact (us ++ vs) e.0 e.1 none)
