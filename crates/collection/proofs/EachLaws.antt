-- The progress of steps that are done one after the other.
use Rattle.std.proofs.Common.{◌≡◌, ℕ, ◌+◌, ◌<◌, ◌≤◌, List, ◌∷◌, Option, Result, Ok, Err, refl, sym, ◌∙◌, ap, subst}
use Rattle.std.proofs.Common.{drop, length, get_or, map}
use Rattle.std.proofs.lemmas.List.{drop_more, drop_all, length-map}
use Rattle.commands.specs.declared.answer.Tally.{Tally}
use Rattle.commands.specs.declared.error.SessionError.{SessionError}
use Rattle.collection.specs.Common.{Acted, EachDone, FileAct, Then, added, none_counted}

-- the acts so far, beside something else
abbrev pub beside : {S : Type 0} → List FileAct → S → Acted S
beside acts s = (acts, s)

module _ {X S : Type 0} (step : X → Option (List ℕ) → Option (List ℕ) → S → S → Result Tally SessionError → Type 0)
    (xs : List X) (sink : Option (List ℕ)) (old : S) where
  -- Some steps were done, and this is counted: whatever the others come to, all come to.
  abbrev pub Done : ℕ → Tally → Option (List ℕ) → S → Type 0
  Done n tally middle now = (full : Option (List ℕ)) (new : S) (result : Result Tally SessionError)
      → EachDone step (drop n xs) tally middle full now new result
      → EachDone step xs none_counted sink full old new result

  pub done_none : Done 0 none_counted sink old
  done_none full new result p = p

  module _ (n : ℕ) (tally : Tally) (middle after : Option (List ℕ)) (now mid : S) (x : X) (h : n < length xs)
      (is : x ≡ get_or xs n x) (p : Done n tally middle now) where
    at : drop n xs ≡ x ∷ drop (n + 1) xs
    at = drop_more xs n x h ∙ ap (λ (y : X). y ∷ drop (n + 1) xs) (sym is)

    pub done_more : (one : Tally) → step x middle after now mid (Ok one) → Done (n + 1) (added tally one) after mid
    done_more one s full new result q = p full new result
        (subst (λ (l : List X). EachDone step l tally middle full now new result) (sym at) (Ok one, after, mid, s, q))

    pub done_cut : (error : SessionError) → step x middle after now mid (Err error)
        → EachDone step xs none_counted sink after old mid (Err error)
    done_cut error s = p after mid (Err error)
        (subst (λ (l : List X). EachDone step l tally middle after now mid (Err error)) (sym at)
        (Err error, after, mid, s, (refl, refl, refl)))

  pub done_all : (n : ℕ) (tally : Tally) (middle : Option (List ℕ)) (now : S) → length xs ≤ n → Done n tally middle now
      → EachDone step xs none_counted sink middle old now (Ok tally)
  done_all n tally middle now h p = p middle now (Ok tally)
      (subst (λ (l : List X). EachDone step l tally middle middle now now (Ok tally)) (sym (drop_all n xs h))
      (refl, refl, refl))

-- Of two steps both were done, or the second one ended the run.
module _ {S : Type 0} (first next : Option (List ℕ) → Option (List ℕ) → S → S → Result Tally SessionError → Type 0)
    (sink middle full : Option (List ℕ)) (old mid new : S) (one : Tally) (p : first sink middle old mid (Ok one)) where
  pub both_done : (two sum : Tally) → sum ≡ added one two → next middle full mid new (Ok two)
      → Then first next sink full old new (Ok sum)
  both_done two sum is q = (Ok one, middle, mid, p, (Ok two, q, ap Ok is))

  pub second_cut : (error : SessionError) → next middle full mid new (Err error)
      → Then first next sink full old new (Err error)
  second_cut error q = (Ok one, middle, mid, p, (Err error, q, refl))

-- The first of two steps ended the run.
pub first_cut : {S : Type 0} (first next : Option (List ℕ) → Option (List ℕ) → S → S → Result Tally SessionError
    → Type 0) (sink full : Option (List ℕ)) (old new : S) (error : SessionError)
    → first sink full old new (Err error) → Then first next sink full old new (Err error)
first_cut first next sink full old new error p = (Err error, full, new, p, (refl, refl, refl))

pub past_map : {A X : Type 0} (f : A → X) (xs : List A) (n : ℕ) → length xs ≤ n → length (map f xs) ≤ n
past_map f xs n h = subst (λ k. k ≤ n) (sym (length-map xs f)) h
