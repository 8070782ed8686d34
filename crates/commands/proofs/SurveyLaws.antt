-- Directories that are listed one after the other.
use Rattle.std.proofs.Common.{◌≡◌, ℕ, ◌+◌, ◌<◌, ◌≤◌, List, [], ◌∷◌, ◌++◌, Result, Ok, Err, refl, sym, ◌∙◌, ap, subst}
use Rattle.std.proofs.Common.{drop, length, get_or, IfOk}
use Rattle.std.proofs.lemmas.List.{drop_more, drop_all}
use Rattle.std.specs.Prelude.{IfErr}
use Rattle.words36.specs.declared.moment.Moment.{Moment}
use Rattle.spec_language.specs.Common.{login_events, operator, directories_plan, list_plan, Plan, Show, Say, each}
use Rattle.spec_language.specs.Common.{fails, Spoken}
use Rattle.spec_language.specs.Common.{both_said, silent, list_said}
use Rattle.spec_language.specs.declared.style.Style.{Style}
use Rattle.spec_machine.specs.declared.call.Reply.{Reply}
use Rattle.commands.specs.Common.{FollowsPlan, FinishesPlan, HasShown, Carries, fresh, Machine, AlwaysStands, spoken}
use Rattle.commands.specs.declared.answer.Tally.{Tally}
use Rattle.commands.proofs.ErrandLaws.{carried, carried_behind}
use Rattle.commands.proofs.LedLaws.{led_on, led_still}

shows_next : (style : Style) (owner : ℕ) (owners : List ℕ) (said : Spoken)
    → directories_plan style (owner ∷ owners) said
    ≡ Show owner (λ answer. directories_plan style owners (both_said said (list_said style owner answer)))
unfolding directories_plan
shows_next style owner owners said = refl

shows_last : (style : Style) (said : Spoken) → directories_plan style [] said ≡ Say said
unfolding directories_plan
shows_last style said = refl

module _ {S : Type 0} (machine : S → Machine) (style : Style) (owners : List ℕ) (tally : Tally) where
  -- the rest after i of them were listed, with this text and tally so far
  abbrev pub Shows : S → S → ℕ → List ℕ → Tally → Type 0
  Shows a b i bytes counted = FollowsPlan machine a b (directories_plan style owners (spoken [] tally))
      (directories_plan style (drop i owners) (spoken bytes counted))

  pub shows_none : AlwaysStands machine → (a : S) → Shows a a 0 [] tally
  shows_none stands a = led_still machine stands a (directories_plan style owners (spoken [] tally))

  module _ {V E : Type 0} (text : V → List ℕ) (a b c : S) (i owner : ℕ) (bytes : List ℕ) (counted mid : Tally)
      (h : i < length owners) (is : owner ≡ get_or owners i owner) (p : Shows a b i bytes counted)
      (result : Result V E) (q : HasShown text result machine b c style owner counted mid) where
    next_led : FollowsPlan machine a c (directories_plan style owners (spoken [] tally))
        (directories_plan style (drop (i + 1) owners)
        (both_said (spoken bytes counted) (list_said style owner q.answer)))
    next_led =
        let at : drop i owners ≡ owner ∷ drop (i + 1) owners = drop_more owners i owner h
        ∙ ap (λ (o : ℕ). o ∷ drop (i + 1) owners) (sym is) in
        led_on machine a b c _ _ _
        (subst (λ (l : List ℕ). FollowsPlan machine a b (directories_plan style owners (spoken [] tally))
        (directories_plan style l (spoken bytes counted))) at p)
        (subst (λ (l : Plan). FollowsPlan machine b c l
        (directories_plan style (drop (i + 1) owners)
        (both_said (spoken bytes counted) (list_said style owner q.answer))))
        (sym (shows_next style owner (drop (i + 1) owners) (spoken bytes counted)))
        (q.led (λ answer. directories_plan style (drop (i + 1) owners)
        (both_said (spoken bytes counted) (list_said style owner answer)))))

    pub shows_more : (v : V) (more : List ℕ) → result ≡ Ok v → more ≡ bytes ++ text v → Shows a c (i + 1) more mid
    shows_more v more ok put =
        let said : text v ≡ (list_said style owner q.answer).text =
        subst (λ (r : Result V E). IfOk r (λ w. text w ≡ (list_said style owner q.answer).text)) ok q.text in
        let grown : bytes ++ (list_said style owner q.answer).text ≡ more = sym (put ∙ ap (λ l. bytes ++ l) said) in
        subst (λ (said : Spoken). FollowsPlan machine a c (directories_plan style owners (spoken [] tally))
        (directories_plan style (drop (i + 1) owners) said))
        (λ j. record { text = grown j; refused = sym q.refused j; broke = sym q.broke j }) next_led

    pub shows_cut : (rest : Plan) × FollowsPlan machine a c (directories_plan style owners (spoken [] tally)) rest
    shows_cut = (_, next_led)

  pub shows_done : (a b : S) (i : ℕ) (bytes : List ℕ) (counted : Tally) → length owners ≤ i → Shows a b i bytes counted
      → FollowsPlan machine a b (directories_plan style owners (spoken [] tally)) (Say (spoken bytes counted))
  shows_done a b i bytes counted h p = subst (λ (l : Plan). FollowsPlan machine a b
      (directories_plan style owners (spoken [] tally)) l)
      (ap (λ (l : List ℕ). directories_plan style l (spoken bytes counted)) (drop_all i owners h)
      ∙ shows_last style (spoken bytes counted)) p

-- the job that logs in may list all directories
pub entered_as : {S : Type 0} (machine : S → Machine) (a b : S) (moment : Moment) (user : ℕ) → user ≡ operator
    → (next rest : Plan) → FollowsPlan machine a b (each moment (login_events user) next) rest
    → FollowsPlan machine a b (each moment (login_events operator) next) rest
entered_as machine a b moment user is next rest entered =
    subst (λ (n : ℕ). FollowsPlan machine a b (each moment (login_events n) next) rest) is entered

-- The job has logged in, or it is refused.
module _ {V E S : Type 0} (machine : S → Machine) (bytes : V → List ℕ) (result : Result V E) (a b c : S)
    (moment : Moment) (style : Style) (owners : List ℕ) (tally counted : Tally) (user : ℕ) (is : user ≡ operator) where
  pub survey_carried : tally ≡ fresh → counted.reason ≡ tally.reason
      → FollowsPlan machine a b (each moment (login_events user) (directories_plan style owners silent))
      (directories_plan style owners silent)
      → IfOk result (λ v. FollowsPlan machine b c (directories_plan style owners (spoken [] tally))
      (Say (spoken (bytes v) counted)))
      → IfErr result (λ error. (rest : Plan) × FollowsPlan machine b c (directories_plan style owners (spoken [] tally))
      rest)
      → Carries bytes result machine a c (list_plan moment style owners) counted
  survey_carried none reason entered ok err =
      let led = subst (λ (n : ℕ). FollowsPlan machine a b
      (each moment (login_events n) (directories_plan style owners silent))
      (directories_plan style owners silent)) is entered in
      let start : spoken [] tally ≡ silent = ap (λ (t : Tally). spoken [] t) none in
      by result (subst (λ (said : Spoken). IfOk result
      (λ v. FollowsPlan machine b c (directories_plan style owners said) (Say (spoken (bytes v) counted)))) start ok)
      (subst (λ (said : Spoken). IfErr result
      (λ error. (rest : Plan) × FollowsPlan machine b c (directories_plan style owners said) rest)) start err) led
    where
      by : (r : Result V E)
          → IfOk r (λ v. FollowsPlan machine b c (directories_plan style owners silent)
          (Say (spoken (bytes v) counted)))
          → IfErr r (λ error. (rest : Plan) × FollowsPlan machine b c (directories_plan style owners silent) rest)
          → FollowsPlan machine a b (list_plan moment style owners) (directories_plan style owners silent)
          → Carries bytes r machine a c (list_plan moment style owners) counted
      by (Ok v) p q led = (
        led_on machine a b c (list_plan moment style owners) (directories_plan style owners silent)
            (Say (spoken (bytes v) counted)) led p,
        reason ∙ ap (λ (t : Tally). t.reason) none,
      )
      by (Err error) p q led =
          (q.0, led_on machine a b c (list_plan moment style owners) (directories_plan style owners silent) q.0 led q.1)

  pub survey_refused : (reply : Reply) → tally ≡ fresh
      → FollowsPlan machine a b (each moment (login_events user) (directories_plan style owners silent))
      (fails moment reply)
      → FinishesPlan bytes result machine b c (fails moment reply) tally counted
      → Carries bytes result machine a c (list_plan moment style owners) counted
  survey_refused reply none entered p =
      let led = subst (λ (n : ℕ). FollowsPlan machine a b
      (each moment (login_events n) (directories_plan style owners silent))
      (fails moment reply)) is entered in
      carried_behind machine bytes result a b c (list_plan moment style owners) (fails moment reply) counted led
      (carried machine bytes result b c (fails moment reply) tally counted none p)
