-- What one more put does to a change set.
use Rattle.std.specs.Prelude.{◌≡◌, ◌⊎◌, ℕ, zero, suc, ◌+◌, ◌<◌, ◌≤◌, List, [], ◌∷◌, ◌++◌, length, Some}
use Rattle.std.specs.List.{AllByRecursion}
use Rattle.std.proofs.Common.{inl, inr, ⊎_elim, refl, ap, arith, subst, sym, ◌∙◌}
use Rattle.std.proofs.lemmas.Bool.{cases_eq}
use Rattle.std.proofs.lemmas.Bool.Decides.{nat_tests}
use Rattle.blockdisk.specs.Common.{Contents}
use Rattle.spec_image.specs.declared.put.Put.{Put}
use Rattle.spec_image.specs.Common.{times, targets, with_puts}
use Rattle.spec_image.proofs.Common.{times-append}
use Rattle.changeset.specs.Puts.{AreDistinct, replaced}

pub replaced_here : (new put : Put) (puts : List Put) → put.block ≡ new.block → replaced new (put ∷ puts) ≡ new ∷ puts
replaced_here new put puts is = grind (arith, nat_tests)

pub replaced_later : (new put : Put) (puts : List Put) → (put.block ≡ new.block → ⊥)
    → replaced new (put ∷ puts) ≡ put ∷ replaced new puts
replaced_later new put puts other = grind (arith, nat_tests)

pub times_head : (n m : ℕ) (ns : List ℕ) → n ≡ m → times n (m ∷ ns) ≡ suc (times n ns)
times_head n m ns is = grind (arith, nat_tests)

pub times_tail : (n m : ℕ) (ns : List ℕ) → (n ≡ m → ⊥) → times n (m ∷ ns) ≡ times n ns
times_tail n m ns other = grind (arith, nat_tests)

pub with_puts_here : (put : Put) (puts : List Put) (c : Contents) (n : ℕ) → n ≡ put.block
    → with_puts (put ∷ puts) c n ≡ Some put.words
with_puts_here put puts c n is = grind (arith, nat_tests)

pub with_puts_later : (put : Put) (puts : List Put) (c : Contents) (n : ℕ) → (n ≡ put.block → ⊥)
    → with_puts (put ∷ puts) c n ≡ with_puts puts c n
with_puts_later put puts c n other = grind (arith, nat_tests)

-- a put for a new block is the last one
pub replaced-new : (new : Put) (puts : List Put) → times new.block (targets puts) ≡ 0
    → replaced new puts ≡ puts ++ new ∷ []
replaced-new new [] none = grind arith
replaced-new new (put ∷ puts) none = by_case (cases_eq put.block new.block) (replaced-new new puts)
  where
    by_case : (put.block ≡ new.block) ⊎ (put.block ≡ new.block → ⊥) → (times new.block (targets puts) ≡ 0
        → replaced new puts ≡ puts ++ new ∷ []) → replaced new (put ∷ puts) ≡ put ∷ puts ++ new ∷ []
    by_case (inl is) rest = absurd (let e = times_head new.block put.block (targets puts) (sym is) in omega arith)
    by_case (inr other) rest = let e = times_tail new.block put.block (targets puts) (λ is. other (sym is)) in
        replaced_later new put puts other ∙ ap (λ (l : List Put). put ∷ l) (rest (sym e ∙ none))

-- a put for a block that has one takes its place
pub targets-replaced : (new : Put) (puts : List Put) → 0 < times new.block (targets puts)
    → targets (replaced new puts) ≡ targets puts
targets-replaced new [] there = absurd (omega arith)
targets-replaced new (put ∷ puts) there = by_case (cases_eq put.block new.block) (targets-replaced new puts)
  where
    by_case : (put.block ≡ new.block) ⊎ (put.block ≡ new.block → ⊥) → (0 < times new.block (targets puts)
        → targets (replaced new puts) ≡ targets puts) → targets (replaced new (put ∷ puts)) ≡ targets (put ∷ puts)
    by_case (inl is) rest = ap targets (replaced_here new put puts is) ∙ ap (λ (n : ℕ). n ∷ targets puts) (sym is)
    by_case (inr other) rest =
        let e = times_tail new.block put.block (targets puts) (λ is. other (sym is)) in
        ap targets (replaced_later new put puts other)
        ∙ ap (λ (l : List ℕ). put.block ∷ l) (rest (subst (λ (k : ℕ). 0 < k) e there))

-- its block has the new words, and the other blocks what they had
pub with_puts-replaced : (new : Put) (puts : List Put) (c : Contents) (n : ℕ)
    → with_puts (replaced new puts) c n ≡ with_puts (new ∷ puts) c n
with_puts-replaced new [] c n = grind arith
with_puts-replaced new (put ∷ puts) c n = by_case (cases_eq put.block new.block) (cases_eq n new.block)
    (cases_eq n put.block) (with_puts-replaced new puts c n)
  where
    by_case : (put.block ≡ new.block) ⊎ (put.block ≡ new.block → ⊥) → (n ≡ new.block) ⊎ (n ≡ new.block → ⊥)
        → (n ≡ put.block) ⊎ (n ≡ put.block → ⊥)
        → with_puts (replaced new puts) c n ≡ with_puts (new ∷ puts) c n
        → with_puts (replaced new (put ∷ puts)) c n ≡ with_puts (new ∷ put ∷ puts) c n
    by_case (inl is) (inl here) in_put rest = ap (λ (l : List Put). with_puts l c n) (replaced_here new put puts is)
        ∙ with_puts_here new puts c n here ∙ sym (with_puts_here new (put ∷ puts) c n here)
    by_case (inl is) (inr out) in_put rest =
        ap (λ (l : List Put). with_puts l c n) (replaced_here new put puts is) ∙ with_puts_later new puts c n out
        ∙ sym (with_puts_later put puts c n (λ here. out (here ∙ is))) ∙ sym (with_puts_later new (put ∷ puts) c n out)
    by_case (inr other) (inl here) in_put rest =
        ap (λ (l : List Put). with_puts l c n) (replaced_later new put puts other)
        ∙ with_puts_later put (replaced new puts) c n (λ is. other (sym is ∙ here))
        ∙ rest ∙ with_puts_here new puts c n here ∙ sym (with_puts_here new (put ∷ puts) c n here)
    by_case (inr other) (inr out) (inl here) rest =
        ap (λ (l : List Put). with_puts l c n) (replaced_later new put puts other)
        ∙ with_puts_here put (replaced new puts) c n here
        ∙ sym (with_puts_here put puts c n here) ∙ sym (with_puts_later new (put ∷ puts) c n out)
    by_case (inr other) (inr out) (inr away) rest =
        ap (λ (l : List Put). with_puts l c n) (replaced_later new put puts other)
        ∙ with_puts_later put (replaced new puts) c n away
        ∙ rest ∙ with_puts_later new puts c n out ∙ sym (with_puts_later put puts c n away)
        ∙ sym (with_puts_later new (put ∷ puts) c n out)

pub all_behind : (P : ℕ → Type 0) (ns : List ℕ) (n : ℕ) → AllByRecursion P ns → P n → AllByRecursion P (ns ++ n ∷ [])
all_behind P [] n all is = (is, tt)
all_behind P (m ∷ ns) n all is = (all.0, all_behind P ns n all.1 is)

pub targets-behind : (puts : List Put) (new : Put) → targets (puts ++ new ∷ []) ≡ targets puts ++ new.block ∷ []
targets-behind [] new = refl
targets-behind (put ∷ puts) new = ap (λ (l : List ℕ). put.block ∷ l) (targets-behind puts new)

pub some_or_none : (n : ℕ) → (0 < n) ⊎ (n ≡ 0)
some_or_none zero = inr refl
some_or_none (suc n) = inl (omega arith)

-- what holds for each target still holds with one more
pub all_replaced : (P : ℕ → Type 0) (new : Put) (puts : List Put) → AllByRecursion P (targets puts) → P new.block
    → AllByRecursion P (targets (replaced new puts))
all_replaced P new puts all is = ⊎_elim
    (λ there. subst (AllByRecursion P) (sym (targets-replaced new puts there)) all)
    (λ none. subst (AllByRecursion P) (sym (ap targets (replaced-new new puts none) ∙ targets-behind puts new))
    (all_behind P (targets puts) new.block all is))
    (some_or_none (times new.block (targets puts)))

pub distinct_behind : (puts : List Put) (new : Put) → AreDistinct puts → times new.block (targets puts) ≡ 0
    → AreDistinct (puts ++ new ∷ [])
distinct_behind puts new distinct none n = by_case (cases_eq n new.block)
  where
    whole : times n (targets (puts ++ new ∷ [])) ≡ times n (targets puts) + times n (new.block ∷ [])
    whole = ap (times n) (targets-behind puts new) ∙ times-append n (targets puts) (new.block ∷ [])

    by_case : (n ≡ new.block) ⊎ (n ≡ new.block → ⊥) → times n (targets (puts ++ new ∷ [])) ≤ 1
    by_case (inl is) =
        let one = times_head n new.block [] is in
        let zero_before : times n (targets puts) ≡ 0 = ap (λ (m : ℕ). times m (targets puts)) is ∙ none in
        omega (arith, whole)
    by_case (inr other) = let none_more = times_tail n new.block [] other in omega (arith, whole, distinct n)

pub distinct_replaced : (new : Put) (puts : List Put) → AreDistinct puts → AreDistinct (replaced new puts)
distinct_replaced new puts distinct = ⊎_elim
    (λ there n. subst (λ (l : List ℕ). times n l ≤ 1) (sym (targets-replaced new puts there)) (distinct n))
    (λ none. subst AreDistinct (sym (replaced-new new puts none)) (distinct_behind puts new distinct none))
    (some_or_none (times new.block (targets puts)))

-- and their greatest number
pub length-replaced : (new : Put) (puts : List Put) → length (replaced new puts) ≤ length puts + 1
length-replaced new [] = omega arith
length-replaced new (put ∷ puts) = ⊎_elim
    (λ is. let e = ap (λ (l : List Put). length l) (replaced_here new put puts is) in omega arith)
    (λ other. let e = ap (λ (l : List Put). length l) (replaced_later new put puts other) in
    omega (arith, length-replaced new puts)) (cases_eq put.block new.block)
