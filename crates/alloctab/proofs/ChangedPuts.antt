-- What the puts of the changed table blocks do.
use Rattle.std.proofs.Common.{◌≡◌, ◌⊎◌, inl, inr, ⊎_elim, ℕ, zero, suc, ◌+◌, ◌-◌, ◌<◌, ◌≤◌, Bool, true, false, List}
use Rattle.std.proofs.Common.{[], ◌∷◌, ◌++◌, length, Some, refl, sym, ◌∙◌, ap, subst, arith}
use Rattle.std.specs.List.{AllByRecursion}
use Rattle.std.proofs.lemmas.Bool.{cases_eq, cases_Bool}
use Rattle.std.proofs.lemmas.List.{map-append}
use Rattle.blockdisk.specs.Common.{Contents}
use Rattle.spec_image.specs.declared.put.Put.{Put}
use Rattle.spec_image.specs.Common.{sum_below, targets, with_puts, times}
use Rattle.spec_image.proofs.Common.{times-append}
use Rattle.changeset.specs.Common.{replaced, times_head, times_tail, with_puts_here, with_puts_later}
use Rattle.changeset.specs.Common.{with_puts-replaced, replaced-new, targets-replaced, all_replaced, length-replaced}
use Rattle.changeset.specs.Common.{some_or_none}
use Rattle.alloctab.specs.Common.{digit, table_words, table_put, with_changed}

-- Lengths and counts.

sum_grows : (f : ℕ → ℕ) (j d : ℕ) → sum_below f j ≤ sum_below f (j + d)
sum_grows f j zero = let e : j + 0 ≡ j = omega arith in let s = ap (sum_below f) e in omega arith
sum_grows f j (suc d) = let e : j + suc d ≡ suc (j + d) = omega arith in let s = ap (sum_below f) e in
    omega (arith, sum_grows f j d)

pub sum_below-le : (f : ℕ → ℕ) (j k : ℕ) → j ≤ k → sum_below f j ≤ sum_below f k
sum_below-le f j k h = subst (λ (n : ℕ). sum_below f j ≤ sum_below f n) (let e : j + (k - j) ≡ k = omega arith in
    e) (sum_grows f j (k - j))

-- Targets of one put more.

times-behind : (puts : List Put) (new : Put) (n : ℕ) → times n (targets (puts ++ new ∷ []))
    ≡ times n (targets puts) + times n (new.block ∷ [])
times-behind puts new n = ap (times n) (map-append (λ (put : Put). put.block) puts (new ∷ []))
    ∙ times-append n (targets puts) (new.block ∷ [])

times-replaced_new : (new : Put) (puts : List Put) (n : ℕ) → times new.block (targets puts) ≡ 0
    → times n (targets (replaced new puts)) ≡ times n (targets puts) + times n (new.block ∷ [])
times-replaced_new new puts n none = ap (λ (l : List Put). times n (targets l)) (replaced-new new puts none)
    ∙ times-behind puts new n

in_replaced_old : (new : Put) (puts : List Put) (n : ℕ) → 0 < times n (targets puts)
    → 0 < times n (targets (replaced new puts))
in_replaced_old new puts n was = ⊎_elim
    (λ there. let e = ap (times n) (targets-replaced new puts there) in omega arith)
    (λ none. let e = times-replaced_new new puts n none in omega arith) (some_or_none (times new.block (targets puts)))

in_replaced_new : (new : Put) (puts : List Put) (n : ℕ) → n ≡ new.block → 0 < times n (targets (replaced new puts))
in_replaced_new new puts n same = ⊎_elim
    (λ there. let e = ap (times n) (targets-replaced new puts there) in
    let f = ap (λ (m : ℕ). times m (targets puts)) same in omega arith)
    (λ none. let e = times-replaced_new new puts n none in let f = times_head n new.block [] same in
    omega arith) (some_or_none (times new.block (targets puts)))

replaced_in : (new : Put) (puts : List Put) (n : ℕ) → 0 < times n (targets (replaced new puts))
    → (0 < times n (targets puts)) ⊎ (n ≡ new.block)
replaced_in new puts n is = ⊎_elim (λ same. inr same)
    (λ other. inl (⊎_elim
    (λ there. let e = ap (times n) (targets-replaced new puts there) in omega arith)
    (λ none. let e = times-replaced_new new puts n none in let f = times_tail n new.block [] other in
    omega arith) (some_or_none (times new.block (targets puts)))))
    (cases_eq n new.block)

module _ (start : ℕ) (bits : ℕ → ℕ) (changed : ℕ → Bool) (puts : List Put) where
  abbrev after : ℕ → List Put
  after k = with_changed start bits changed k puts

  abbrev new : ℕ → Put
  new k = table_put start bits k

  -- one of the first k table blocks is changed, and is this block
  abbrev pub Changed : ℕ → ℕ → Type 0
  Changed k n = (i : ℕ) × (i < k) × (changed i ≡ true) × (n ≡ start + i)

  pub changed_more : (k : ℕ) → changed k ≡ true → with_changed start bits changed (suc k) puts
      ≡ replaced (table_put start bits k) (with_changed start bits changed k puts)
  changed_more k is = grind arith

  pub unchanged_more : (k : ℕ) → changed k ≡ false → with_changed start bits changed (suc k) puts
      ≡ with_changed start bits changed k puts
  unchanged_more k is = grind arith

  pub length-after : (k : ℕ) → length (with_changed start bits changed k puts)
      ≤ length puts + sum_below (λ i. digit (changed i)) k
  length-after zero = omega arith
  length-after (suc k) = ⊎_elim
      (λ is. let e = ap (λ (l : List Put). length l) (changed_more k is) in let d = ap digit is in
      let more = length-replaced (new k) (after k) in omega (arith, length-after k))
      (λ is. let e = ap (λ (l : List Put). length l) (unchanged_more k is) in
      omega (arith, length-after k)) (cases_Bool (changed k))

  pub put_after : (c : Contents) (k i : ℕ) → i < k → changed i ≡ true
      → with_puts (with_changed start bits changed k puts) c (start + i) ≡ Some (table_words bits i)
  put_after c zero i below is = absurd (omega arith)
  put_after c (suc k) i below is = by_case (cases_eq i k) (cases_Bool (changed k))
      (λ other. put_after c k i (omega arith) is)
    where
      by_case : (i ≡ k) ⊎ (i ≡ k → ⊥) → (changed k ≡ true) ⊎ (changed k ≡ false)
          → ((i ≡ k → ⊥) → with_puts (with_changed start bits changed k puts) c (start + i) ≡ Some (table_words bits i))
          → with_puts (with_changed start bits changed (suc k) puts) c (start + i) ≡ Some (table_words bits i)
      by_case (inl same) (inl at) earlier =
          ap (λ (l : List Put). with_puts l c (start + i)) (changed_more k at)
          ∙ with_puts-replaced (new k) (after k) c (start + i)
          ∙ with_puts_here (new k) (after k) c (start + i) (ap (λ (n : ℕ). start + n) same)
          ∙ ap (λ (n : ℕ). Some (table_words bits n)) (sym same)
      by_case (inl same) (inr not) earlier = absurd (let e = ap changed same in cc)
      by_case (inr other) (inl at) earlier =
          ap (λ (l : List Put). with_puts l c (start + i)) (changed_more k at)
          ∙ with_puts-replaced (new k) (after k) c (start + i)
          ∙ with_puts_later (new k) (after k) c (start + i) (λ e. other (omega arith))
          ∙ earlier other
      by_case (inr other) (inr not) earlier = ap (λ (l : List Put). with_puts l c (start + i)) (unchanged_more k not)
          ∙ earlier other

  pub others_after : (c : Contents) (n k : ℕ) → (Changed k n → ⊥)
      → with_puts (with_changed start bits changed k puts) c n ≡ with_puts puts c n
  others_after c n zero none = refl
  others_after c n (suc k) none = by_case (cases_Bool (changed k))
      (others_after c n k (λ is. none (is.0, (let h = is.1 in omega arith), is.2, is.3)))
    where
      by_case : (changed k ≡ true) ⊎ (changed k ≡ false) → with_puts (with_changed start bits changed k puts) c n
          ≡ with_puts puts c n → with_puts (with_changed start bits changed (suc k) puts) c n ≡ with_puts puts c n
      by_case (inl at) before =
          ap (λ (l : List Put). with_puts l c n) (changed_more k at) ∙ with_puts-replaced (new k) (after k) c n
          ∙ with_puts_later (new k) (after k) c n (λ e. none (k, omega arith, at, e))
          ∙ before
      by_case (inr not) before = ap (λ (l : List Put). with_puts l c n) (unchanged_more k not) ∙ before

  pub all_after : (P : ℕ → Type 0) (k : ℕ) → ((i : ℕ) → i < k → P (start + i)) → AllByRecursion P (targets puts)
      → AllByRecursion P (targets (with_changed start bits changed k puts))
  all_after P zero each all = all
  all_after P (suc k) each all = by_case (cases_Bool (changed k)) (all_after P k (λ i below. each i (omega arith)) all)
    where
      by_case : (changed k ≡ true) ⊎ (changed k ≡ false)
          → AllByRecursion P (targets (with_changed start bits changed k puts))
          → AllByRecursion P (targets (with_changed start bits changed (suc k) puts))
      by_case (inl at) before = subst (λ (l : List Put). AllByRecursion P (targets l)) (sym (changed_more k at))
          (all_replaced P (new k) (after k) before (each k (omega arith)))
      by_case (inr not) before = subst (λ (l : List Put). AllByRecursion P (targets l))
          (sym (unchanged_more k not)) before

  -- The targets are those from before and the changed blocks.

  pub in_after : (n k : ℕ) → (0 < times n (targets puts)) ⊎ Changed k n
      → 0 < times n (targets (with_changed start bits changed k puts))
  in_after n zero (inl was) = was
  in_after n zero (inr is) = absurd (let h = is.1 in omega arith)
  in_after n (suc k) there = by_case (cases_Bool (changed k)) there (in_after n k)
    where
      at_last : (changed k ≡ true) → n ≡ start + k
          → 0 < times n (targets (with_changed start bits changed (suc k) puts))
      at_last at same = subst (λ (l : List Put). 0 < times n (targets l)) (sym (changed_more k at))
          (in_replaced_new (new k) (after k) n same)

      keep : (changed k ≡ true) ⊎ (changed k ≡ false) → 0 < times n (targets (with_changed start bits changed k puts))
          → 0 < times n (targets (with_changed start bits changed (suc k) puts))
      keep (inl at) was = subst (λ (l : List Put). 0 < times n (targets l)) (sym (changed_more k at))
          (in_replaced_old (new k) (after k) n was)
      keep (inr not) was = subst (λ (l : List Put). 0 < times n (targets l)) (sym (unchanged_more k not)) was

      by_case : (changed k ≡ true) ⊎ (changed k ≡ false) → (0 < times n (targets puts)) ⊎ Changed (suc k) n
          → ((0 < times n (targets puts)) ⊎ Changed k n
          → 0 < times n (targets (with_changed start bits changed k puts)))
          → 0 < times n (targets (with_changed start bits changed (suc k) puts))
      by_case b (inl was) earlier = keep b (earlier (inl was))
      by_case b (inr is) earlier = ⊎_elim
          (λ same. at_last (ap changed (sym same) ∙ is.2) (is.3 ∙ ap (λ (i : ℕ). start + i) same))
          (λ other. keep b (earlier (inr (is.0, (let h = is.1 in omega arith), is.2, is.3)))) (cases_eq is.0 k)

  pub after_in : (n k : ℕ) → 0 < times n (targets (with_changed start bits changed k puts))
      → (0 < times n (targets puts)) ⊎ Changed k n
  after_in n zero is = inl is
  after_in n (suc k) is = by_case (cases_Bool (changed k)) (after_in n k)
    where
      later : (0 < times n (targets puts)) ⊎ Changed k n → (0 < times n (targets puts)) ⊎ Changed (suc k) n
      later (inl was) = inl was
      later (inr at) = inr (at.0, (let h = at.1 in omega arith), at.2, at.3)

      by_case : (changed k ≡ true) ⊎ (changed k ≡ false)
          → (0 < times n (targets (with_changed start bits changed k puts)) → (0 < times n (targets puts))
          ⊎ Changed k n) → (0 < times n (targets puts)) ⊎ Changed (suc k) n
      by_case (inl at) earlier = ⊎_elim (λ was. later (earlier was)) (λ same. inr (k, omega arith, at, same))
          (replaced_in (new k) (after k) n (subst (λ (l : List Put). 0 < times n (targets l)) (changed_more k at) is))
      by_case (inr not) earlier = later
          (earlier (subst (λ (l : List Put). 0 < times n (targets l)) (unchanged_more k not) is))
