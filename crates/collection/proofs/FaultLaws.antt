-- The lines of the faults of a kind, one after the other, as long as there is room.
use Rattle.std.proofs.Common.{◌≡◌, ◌<◌, ◌≤◌, ◌+◌, ◌-◌, ◌∷◌, ◌||◌, ◌&&◌, ◌∙◌, ℕ, zero, suc, Bool, true, false, nat_lt}
use Rattle.std.proofs.Common.{List, [], Option, None, Result, Ok, Err, MatchResult, refl, sym, ap, arith, subst, drop}
use Rattle.std.proofs.Common.{filter, get_or, length, take}
use Rattle.std.proofs.lemmas.List.{drop_all, drop_more, take_all}
use Rattle.std.proofs.lemmas.List.FromFn.{get_or-range_with_len, length-range_with_len}
use Rattle.std.proofs.lemmas.Bool.Decides.{nat_tests}
use mir.Val.{bool_byte}
use Rattle.commands.specs.declared.answer.Tally.{Tally}
use Rattle.commands.specs.declared.error.SessionError.{SessionError}
use Rattle.salvage.specs.declared.finding.Finding.{Finding}
use Rattle.collection.specs.Common.{EachDone, IsLineDone, IsPassedOver, added, is_of_kind, kind_texts, kinds}
use Rattle.collection.specs.Common.{none_counted, of_kind}
use Rattle.collection.specs.declared.task.ExportTask.{ExportTask}

-- The kinds are the numbers of their texts.

kinds_length : length kinds ≡ length kind_texts
unfolding kinds
kinds_length = length-range_with_len 0 (length kind_texts)

pub kind_below : (n : ℕ) → n < length kind_texts → n < length kinds
kind_below n below = subst (λ l. n < l) (sym kinds_length) below

pub kinds_done : (n : ℕ) → length kind_texts ≤ n → length kinds ≤ n
kinds_done n done = subst (λ l. l ≤ n) (sym kinds_length) done

pub kind_at : (n : ℕ) → n < length kind_texts → n ≡ get_or kinds n n
unfolding kinds
kind_at n below = omega (arith, get_or-range_with_len 0 (length kind_texts) n n below)

-- What passes a test, up to a number.

both : (a b : Bool) → true ≡ (a && b) → (a ≡ true) × (b ≡ true)
both true true is = (refl, refl)
both true false is = absurd (cc is)
both false b is = absurd (cc is)

second : (a b : Bool) → a ≡ true → false ≡ (a && b) → b ≡ false
second true b first is = sym is
second false b first is = absurd (cc first)

taken : {X : Type 0} (test : X → Bool) (room : ℕ) (x : X) (xs : List X) → true ≡ (nat_lt 0 room && test x)
    → take room (filter test (x ∷ xs)) ≡ x ∷ take (room - 1) (filter test xs)
taken test zero x xs is = let wrong : nat_lt 0 0 ≡ true = (both (nat_lt 0 0) (test x) is).0 in absurd (cc wrong)
taken test (suc room) x xs is =
    let one_less : suc room - 1 ≡ room = omega arith in
    rw ((both (nat_lt 0 (suc room)) (test x) is).1, one_less) refl

left_out : {X : Type 0} (test : X → Bool) (room : ℕ) (x : X) (xs : List X) → false ≡ (nat_lt 0 room && test x)
    → take room (filter test (x ∷ xs)) ≡ take room (filter test xs)
left_out test zero x xs is = refl
left_out test (suc room) x xs is =
    let some : nat_lt 0 (suc room) ≡ true = grind (arith, nat_tests) in
    rw (second (nat_lt 0 (suc room)) (test x) some is) refl

-- Nothing is counted for a fault that has no line.

or_false : (b : Bool) → (b || false) ≡ b
or_false true = refl
or_false false = refl

added_none : (tally : Tally) → tally.reason ≡ None → added tally none_counted ≡ tally
added_none tally reason = λ i. record {
  refused = or_false tally.refused i;
  broke = or_false tally.broke i;
  reason = sym reason i;
}

one_result : (one two : Tally) (result : Result Tally SessionError) → result ≡ Ok one → result ≡ Ok two → one ≡ two
one_result one two result first second = cc

module _ (task : ExportTask) (kind limit : ℕ) (xs : List Finding) (sink : Option (List ℕ)) where
  -- The lines of some faults were written, there is room for this number of others, and this is counted: whatever the
  -- others come to, all come to.
  abbrev pub DoneWithRoom : ℕ → ℕ → Tally → Option (List ℕ) → Type 0
  DoneWithRoom n room tally middle = (full : Option (List ℕ)) (result : Result Tally SessionError)
      → EachDone (IsLineDone task) (take room (of_kind task.owner kind (drop n xs))) tally middle full tt tt result
      → EachDone (IsLineDone task) (take limit (of_kind task.owner kind xs)) none_counted sink full tt tt result

  pub told_none : DoneWithRoom 0 limit none_counted sink
  told_none full result p = p

  module _ (n room : ℕ) (tally : Tally) (middle after : Option (List ℕ)) (x : Finding) (h : n < length xs)
      (is : x ≡ get_or xs n x) (p : DoneWithRoom n room tally middle) where
    at : take room (of_kind task.owner kind (drop n xs)) ≡ take room (of_kind task.owner kind (x ∷ drop (n + 1) xs))
    at = ap (λ (l : List Finding). take room (of_kind task.owner kind l))
        (drop_more xs n x h ∙ ap (λ (y : Finding). y ∷ drop (n + 1) xs) (sym is))

    -- a fault that has a line, whatever came of it and of those after it
    told_line : true ≡ (nat_lt 0 room && is_of_kind task.owner kind x) → (one : Result Tally SessionError)
        → IsLineDone task x middle after tt tt one → (full : Option (List ℕ)) (result : Result Tally SessionError)
        → MatchResult one (λ counted. EachDone (IsLineDone task)
        (take (room - 1) (of_kind task.owner kind (drop (n + 1) xs))) (added tally counted) after full tt tt result)
        (λ error. (full ≡ after) × (tt {0} ≡ tt) × (result ≡ Err error))
        → EachDone (IsLineDone task) (take limit (of_kind task.owner kind xs)) none_counted sink full tt tt result
    told_line line one done full result rest = p full result
        (subst (λ (l : List Finding). EachDone (IsLineDone task) l tally middle full tt tt result)
        (sym (at ∙ taken (is_of_kind task.owner kind) room x (drop (n + 1) xs) line)) (one, after, tt, done, rest))

    -- a fault that has none
    told_no_line : false ≡ (nat_lt 0 room && is_of_kind task.owner kind x) → DoneWithRoom (n + 1) room tally middle
    told_no_line line full result rest = p full result
        (subst (λ (l : List Finding). EachDone (IsLineDone task) l tally middle full tt tt result)
        (sym (at ∙ left_out (is_of_kind task.owner kind) room x (drop (n + 1) xs) line)) rest)

    pub told_more : (has : Bool) → has ≡ (nat_lt 0 room && is_of_kind task.owner kind x) → tally.reason ≡ None
        → (one : Tally) → (has ≡ true → IsLineDone task x middle after tt tt (Ok one))
        → (has ≡ false → IsPassedOver {S = Unit {0}} middle after tt tt (Ok one))
        → DoneWithRoom (n + 1) (room - bool_byte has) (added tally one) after
    told_more true line reason one told passed = told_line line (Ok one) (told refl)
    told_more false line reason one told passed =
        let nothing = passed refl in
        let counted : one ≡ none_counted = one_result one none_counted (Ok one) refl nothing.counted in
        let same : added tally one ≡ tally = ap (added tally) counted ∙ added_none tally reason in
        let still : room - 0 ≡ room = omega arith in
        rw (same, still, nothing.unwritten) (told_no_line line)

    pub told_cut : (has : Bool) → has ≡ (nat_lt 0 room && is_of_kind task.owner kind x) → (error : SessionError)
        → (has ≡ true → IsLineDone task x middle after tt tt (Err error))
        → (has ≡ false → IsPassedOver {S = Unit {0}} middle after tt tt (Err error))
        → EachDone (IsLineDone task) (take limit (of_kind task.owner kind xs)) none_counted sink after tt tt (Err error)
    told_cut true line error told passed =
        told_line line (Err error) (told refl) after (Err error) (refl, refl, refl)
    told_cut false line error told passed =
        let wrong : Err error ≡ Ok none_counted = (passed refl).counted in absurd (cc wrong)

  pub told_all : (n room : ℕ) (tally : Tally) (middle : Option (List ℕ)) → length xs ≤ n
      → DoneWithRoom n room tally middle
      → EachDone (IsLineDone task) (take limit (of_kind task.owner kind xs)) none_counted sink middle tt tt (Ok tally)
  told_all n room tally middle h p =
      let none : take room (of_kind task.owner kind (drop n xs)) ≡ [] =
      ap (λ (l : List Finding). take room (of_kind task.owner kind l)) (drop_all n xs h)
      ∙ take_all room [] (omega arith) in
      p middle (Ok tally)
      (subst (λ (l : List Finding). EachDone (IsLineDone task) l tally middle middle tt tt (Ok tally)) (sym none)
      (refl, refl, refl))
