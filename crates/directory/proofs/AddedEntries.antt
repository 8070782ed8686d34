-- Entries as they are added one after the other to those before.
use Rattle.std.proofs.Common.{◌≡◌, ℕ, ◌+◌, ◌*◌, ◌==◌, ◌<◌, Bool, true, false, ⊎_elim, List, [], ◌∷◌, ◌++◌, map, length}
use Rattle.std.proofs.Common.{take, drop, None, refl, sym, ap, subst, ◌∙◌, arith, append_assoc, append-nil, Ordering}
use Rattle.std.specs.List.{AllByRecursion}
use Rattle.std.specs.Cmp.{IsTotalOrder}
use Rattle.std.specs.FinMap.Entries.{find}
use Rattle.std.proofs.lemmas.Bool.{cases_eq}
use Rattle.std.proofs.lemmas.Bool.Decides.{nat_tests}
use Rattle.std.proofs.lemmas.List.{map-append, length-map}
use Rattle.spec_image.specs.Common.{EachOnce, InSpace}
use Rattle.spec_image.proofs.Common.{TellsApart, EachOnce-push, EachOnce-without, all_append, once_front, all_right}
use Rattle.directory.specs.Common.{SpellsBlock, AreGood, IsBadWords, Adds}
use Rattle.directory.proofs.BlockEntries.{IsEntryAt, spelled_at, behind_two}

-- Adding one.

module _ {E K V : Type 0} {R : K → K → Ordering} (o : IsTotalOrder R) (view : E → K × V) (IsEntry : K × V
    → Type 0) (target : K × V → ℕ) (size : ℕ) where
  pub good_push : (old new : List E) (e : E) → new ≡ old ++ e ∷ [] → AreGood R IsEntry target size (map view old)
      → IsEntry (view e) → InSpace size (target (view e)) → find R (view e).0 (map view old) ≡ None
      → AreGood R IsEntry target size (map view new)
  good_push old new e is good entry inside none =
      let all : map view new ≡ map view old ++ view e ∷ [] = ap (map view) is ∙ map-append view old (e ∷ []) in
      subst (AreGood R IsEntry target size) (sym all) (record {
        are_entries = all_append IsEntry (map view old) (view e ∷ []) good.are_entries (entry, tt);
        each_once = EachOnce-push o (map view old) (view e).0 (view e).1 none good.each_once;
        inside = all_append (λ x. InSpace size (target x)) (map view old) (view e ∷ []) good.inside (inside, tt);
      })

-- Adding those of a block.

module _ {K V : Type 0} {R : K → K → Ordering} (o : IsTotalOrder R) (words : K × V → List ℕ) (apart : TellsApart words)
    (IsEntry : K × V → Type 0) (target : K × V → ℕ) (size : ℕ) (block three : List ℕ) (count i : ℕ) (below : i < count)
    (long : length block ≡ 128) (at : three ≡ take 3 (drop (2 + 3 * i) block)) (next : ℕ) (es : List (K × V))
    (s : SpellsBlock words IsEntry block next es) (many : length es ≡ count) where
  here : IsEntryAt words IsEntry (drop 2 block) es i
  here = spelled_at words apart IsEntry block next es i s (omega arith)

  has_words : words here.entry ≡ three
  has_words = here.is ∙ sym (ap (take 3) (behind_two block i long)) ∙ sym at

  pub pushed : (old now new : List (K × V)) → now ≡ old ++ take i es
      → ((e : K × V) → words e ≡ three → new ≡ now ++ e ∷ []) → new ≡ old ++ take (i + 1) es
  pushed old now new so_far more = more here.entry has_words ∙ ap (λ l. l ++ here.entry ∷ []) so_far
      ∙ append_assoc old (take i es) (here.entry ∷ []) ∙ ap (λ l. old ++ l) (sym here.front)

  pub one_outside : ((e : K × V) → IsEntry e → words e ≡ three → InSpace size (target e) → ⊥)
      → AllByRecursion (λ e. InSpace size (target e)) es → ⊥
  one_outside out all = out here.entry here.good has_words (all_right (λ e. InSpace size (target e)) (take i es)
      (here.entry ∷ drop (i + 1) es) (subst (AllByRecursion (λ e. InSpace size (target e))) here.split all)).0

  pub one_again : (old now : List (K × V)) → now ≡ old ++ take i es
      → ((e : K × V) → words e ≡ three → find R e.0 now ≡ None → ⊥) → EachOnce R (old ++ es) → ⊥
  one_again old now so_far again once =
      let e = here.entry in
      let all : old ++ es ≡ (now ++ e ∷ []) ++ drop (i + 1) es = ap (λ l. old ++ l) here.split
      ∙ sym (append_assoc old (take i es) (e ∷ drop (i + 1) es)) ∙ ap (λ l. l ++ e ∷ drop (i + 1) es) (sym so_far)
      ∙ sym (append_assoc now (e ∷ []) (drop (i + 1) es)) in
      let r = EachOnce-without o now e []
      (once_front R (now ++ e ∷ []) (drop (i + 1) es) (subst (EachOnce R) all once)) in
      again e has_words (ap (find R e.0) (sym (append-nil now)) ∙ r.0)

-- What is wrong with a block of well-formed words, and what is right.

module _ {K V : Type 0} (R : K → K → Ordering) (words : K × V → List ℕ) (IsEntry : K × V → Type 0) (target : K × V
    → ℕ) (size : ℕ) (block : List ℕ) (before : List (K × V)) (next : ℕ) (es : List (K × V))
    (s : SpellsBlock words IsEntry block next es) where
  pub stuck : (n : ℕ) → n ≡ next → 0 < n → (length es ≡ 42 → InSpace size n → ⊥)
      → IsBadWords R words IsEntry target size block before
  stuck n is some none =
      ⊎_elim
      (λ (full : length es ≡ 42). IsBadWords.next_outside next es s (omega arith)
      (λ inside. none full (subst (InSpace size) (sym is) inside)))
      (λ (less : length es ≡ 42 → ⊥). IsBadWords.short next es s (omega arith) less)
      (cases_eq (length es) 42)

  pub empty_behind : length es ≡ 0 → 0 < length before → IsBadWords R words IsEntry target size block before
  empty_behind none some = IsBadWords.empty_later next
      (subst (SpellsBlock words IsEntry block next) (nothing es none) s) some
    where
      nothing : (l : List (K × V)) → length l ≡ 0 → l ≡ []
      nothing [] e = refl
      nothing (x ∷ l) e = absurd (omega arith)

  pub adds : (n : ℕ) (new : List (K × V)) → n ≡ next → (0 < n → length es ≡ 42) → (0 < n → InSpace size n)
      → (0 < length before → 0 < length es) → new ≡ before ++ es → AreGood R IsEntry target size new
      → Adds R words IsEntry target size block n before new
  adds n new is full inside later more good = record {
    entries = es;
    spells = subst (λ m. SpellsBlock words IsEntry block m es) (sym is) s;
    full = full;
    later = later;
    next_inside = inside;
    new_is = more;
    good = good;
  }

pub same_number : (n m : ℕ) → (n == m) ≡ true → n ≡ m
same_number n m t = grind (arith, nat_tests)

pub some_number : (n : ℕ) → (n == 0) ≡ false → 0 < n
some_number n t = grind (arith, nat_tests)

pub none_then : {E X : Type 0} (view : E → X) (slice es : List E) (b : Bool) → slice ≡ es → b ≡ (length slice == 0)
    → b ≡ true → 0 < length (map view es) → ⊥
none_then view slice es b same e t some =
    let none = same_number (length slice) 0 (sym e ∙ t) in
    let f = ap length same in
    let m = length-map es view in
    omega arith

pub some_then : {E X : Type 0} (view : E → X) (slice es : List E) (b : Bool) → slice ≡ es → b ≡ (length slice == 0)
    → b ≡ false → 0 < length (map view es)
some_then view slice es b same e t =
    let some = some_number (length slice) (sym e ∙ t) in
    let f = ap length same in
    let m = length-map es view in
    omega arith
