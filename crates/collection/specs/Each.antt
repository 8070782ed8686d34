-- Steps that are done one after the other, each with a result that is counted, until one ends the run.
use Rattle.std.specs.Prelude.{◌≡◌, ◌||◌, ℕ, false, List, [], ◌∷◌, Option, None, Result, Ok, Err, MatchResult}
use Rattle.spec_language.specs.Common.{Act}
use Rattle.commands.specs.Common.{GoesBy, Machine}
use Rattle.commands.specs.declared.answer.Tally.{Tally}
use Rattle.commands.specs.declared.error.SessionError.{SessionError}

-- nothing was counted yet
abbrev pub none_counted : Tally
none_counted = record { refused = false; broke = false; reason = None }

-- what was counted so far, with what was counted for one thing more; there is no reason
abbrev pub added : Tally → Tally → Tally
added tally one = record {
  refused = tally.refused || one.refused;
  broke = tally.broke || one.broke;
  reason = None;
}

-- Nothing was done, and nothing is counted.
pub record IsPassedOver {S : Type 0} (sink full : Option (List ℕ)) (old new : S) (result : Result Tally SessionError)
    : Type 0 where
  pub same : new ≡ old
  pub unwritten : full ≡ sink
  pub counted : result ≡ Ok none_counted

-- A step with each of these was done, in their order; it relates the writer and the service before and after it, and
-- its result. This tally was counted for others before them. A result that isn't a tally ends the run.
abbrev pub EachDone : {X S : Type 0} → (X → Option (List ℕ) → Option (List ℕ) → S → S → Result Tally SessionError
    → Type 0) → List X → Tally → Option (List ℕ) → Option (List ℕ) → S → S → Result Tally SessionError → Type 0
EachDone step [] tally sink full old new result = (full ≡ sink) × (new ≡ old) × (result ≡ Ok tally)
EachDone {S = S} step (x ∷ xs) tally sink full old new result =
    (one : Result Tally SessionError) × (middle : Option (List ℕ)) × (mid : S) × step x sink middle old mid one
    × MatchResult one (λ counted. EachDone step xs (added tally counted) middle full mid new result)
    (λ error. (full ≡ middle) × (new ≡ mid) × (result ≡ Err error))

-- One step was done and then another, and both were counted; if the first one ended the run, it alone was done.
abbrev pub Then : {S : Type 0} → (Option (List ℕ) → Option (List ℕ) → S → S → Result Tally SessionError → Type 0)
    → (Option (List ℕ) → Option (List ℕ) → S → S → Result Tally SessionError → Type 0)
    → Option (List ℕ) → Option (List ℕ) → S → S → Result Tally SessionError → Type 0
Then {S = S} first next sink full old new result =
    (one : Result Tally SessionError) × (middle : Option (List ℕ)) × (mid : S) × first sink middle old mid one
    × MatchResult one (λ counted. (two : Result Tally SessionError) × next middle full mid new two
    × MatchResult two (λ more. result ≡ Ok (added counted more)) (λ error. result ≡ Err error))
    (λ error. (full ≡ middle) × (new ≡ mid) × (result ≡ Err error))

-- The service went from one value to another by some acts, moment by moment.
pub record Goes {S : Type 0} (machine : S → Machine) (old new : S) : Type 0 where
  pub acts : List Act
  pub goes : GoesBy machine old new acts
