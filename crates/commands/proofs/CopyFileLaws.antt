-- How a file is copied: its plan, step by step.
use Rattle.std.proofs.Common.{◌≡◌, ◌≢◌, ℕ, zero, suc, ◌+◌, ◌-◌, ◌/◌, ◌%◌, ◌<◌, ◌≤◌, List, [], ◌∷◌, ◌++◌, refl, sym}
use Rattle.std.proofs.Common.{◌∙◌, ap, subst, arith}
use Rattle.words36.specs.declared.moment.Moment.{Moment}
use Rattle.spec_language.specs.Common.{Plan, each, examines, fails, lookup_events, enter_events, list_events, in_event}
use Rattle.spec_language.specs.Common.{out_event, call_event}
use Rattle.spec_language.specs.Common.{copy_runs_plan, copy_blocks_plan, copy_last_plan, copy_body_plan, until_end}
use Rattle.spec_language.specs.Common.{blocks_said}
use Rattle.spec_language.specs.Common.{file_words, blocks_at_once}
use Rattle.spec_language.specs.declared.command.Spec.{Spec}
use Rattle.spec_machine.specs.declared.call.Call.TheVariants.{Close}
use Rattle.spec_machine.specs.declared.call.Reply.{Reply}
use Rattle.spec_machine.specs.declared.call.Event.{Event}
use Rattle.commands.specs.Common.{FollowsPlan, Machine, AlwaysStands}
use Rattle.commands.proofs.LedLaws.{led_on, led_still, each_append}

one_less : (m i : ℕ) → i < m → m - i ≡ suc (m - (i + 1))
one_less m i h = omega arith

none_less : (m : ℕ) → m - 0 ≡ m
none_less m = omega arith

all_less : (m i : ℕ) → m ≤ i → m - i ≡ 0
all_less m i h = omega arith

-- the plan of events and of those after them
pub each_both : (moment : Moment) (asked : List Event) (events more : List Event) (next : Plan) → asked ≡ events
    → each moment (events ++ more) next ≡ each moment asked (each moment more next)
each_both moment asked events more next e = each_append moment events more next
    ∙ ap (λ (l : List Event). each moment l (each moment more next)) (sym e)

run_copied : (moment : Moment) (more : ℕ) (next : Plan) → copy_runs_plan moment (suc more) next
    ≡ each moment (in_event moment ∷ out_event moment ∷ []) (copy_runs_plan moment more next)
unfolding copy_runs_plan
run_copied moment more next = refl

none_copied : (moment : Moment) (next : Plan) → copy_runs_plan moment 0 next ≡ next
unfolding copy_runs_plan
none_copied moment next = refl

one_before : (more : ℕ) → more ≡ suc more - 1
one_before more = omega arith

body_copied : (moment : Moment) (blocks size : ℕ) (next : Plan) → 0 < blocks
    → copy_body_plan moment blocks size next ≡ copy_blocks_plan moment (blocks - 1)
    (copy_last_plan moment blocks size next)
body_copied moment zero size next h = absurd (omega arith)
body_copied moment (suc more) size next h = ap
    (λ (k : ℕ). copy_blocks_plan moment k (copy_last_plan moment (suc more) size next)) (one_before more)

none_in_body : (moment : Moment) (blocks size : ℕ) (next : Plan) → blocks ≡ 0
    → copy_body_plan moment blocks size next ≡ next
none_in_body moment blocks size next e = ap (λ (k : ℕ). copy_body_plan moment k size next) e

module _ {S : Type 0} (machine : S → Machine) where
  -- the events of a plan that begins with these
  pub led_each : (a b : S) (moment : Moment) (asked : List Event) (events : List Event) (next rest : Plan)
      → asked ≡ events → FollowsPlan machine a b (each moment asked next) rest
      → FollowsPlan machine a b (each moment events next) rest
  led_each a b moment asked events next rest e p = subst
      (λ (l : List Event). FollowsPlan machine a b (each moment l next) rest)
      e p

  -- the same if others come after them
  pub led_first : (a b : S) (moment : Moment) (asked : List Event) (events more : List Event) (next rest : Plan)
      → asked ≡ events → FollowsPlan machine a b (each moment asked (each moment more next)) rest
      → FollowsPlan machine a b (each moment (events ++ more) next) rest
  led_first a b moment asked events more next rest e p = subst (λ (l : Plan). FollowsPlan machine a b l rest)
      (sym (each_both moment asked events more next e)) p

  -- Runs.

  module _ (a b c : S) (moment : Moment) (count i : ℕ) (asked : List Event) (is_asked : asked
      ≡ in_event moment ∷ out_event moment ∷ []) (h : i < count)
      (before : (next : Plan)
      → FollowsPlan machine a b (copy_runs_plan moment count next) (copy_runs_plan moment (count - i) next)) where
    run_led : (next rest : Plan) → FollowsPlan machine b c
        (each moment asked (copy_runs_plan moment (count - (i + 1)) next))
        rest → FollowsPlan machine a c (copy_runs_plan moment count next) rest
    run_led next rest p =
        led_on machine a b c (copy_runs_plan moment count next) (copy_runs_plan moment (count - i) next) rest
        (before next)
        (subst (λ (l : Plan). FollowsPlan machine b c l rest)
        (sym (ap (λ (k : ℕ). copy_runs_plan moment k next) (one_less count i h)
        ∙ run_copied moment (count - (i + 1)) next))
        (led_each b c moment asked (in_event moment ∷ out_event moment ∷ [])
        (copy_runs_plan moment (count - (i + 1)) next)
        rest is_asked p))

    pub runs_more : ((next : Plan) → FollowsPlan machine b c (each moment asked next) next) → (next : Plan)
        → FollowsPlan machine a c (copy_runs_plan moment count next) (copy_runs_plan moment (count - (i + 1)) next)
    runs_more p next = run_led next (copy_runs_plan moment (count - (i + 1)) next)
        (p (copy_runs_plan moment (count - (i + 1)) next))

    pub runs_fail : (reply : Reply)
        → ((next : Plan) → FollowsPlan machine b c (each moment asked next) (fails moment reply))
        → (next : Plan) → FollowsPlan machine a c (copy_runs_plan moment count next) (fails moment reply)
    runs_fail reply p next = run_led next (fails moment reply) (p (copy_runs_plan moment (count - (i + 1)) next))

  pub runs_all : (a b : S) (moment : Moment) (count i : ℕ) → count ≤ i
      → ((next : Plan) → FollowsPlan machine a b (copy_runs_plan moment count next)
      (copy_runs_plan moment (count - i) next))
      → (next : Plan) → FollowsPlan machine a b (copy_runs_plan moment count next) next
  runs_all a b moment count i h p next =
      subst (λ (l : Plan). FollowsPlan machine a b (copy_runs_plan moment count next) l)
      (ap (λ (k : ℕ). copy_runs_plan moment k next) (all_less count i h) ∙ none_copied moment next) (p next)

  pub runs_none : AlwaysStands machine → (a : S) (moment : Moment) (count : ℕ) (next : Plan)
      → FollowsPlan machine a a (copy_runs_plan moment count next) (copy_runs_plan moment (count - 0) next)
  runs_none stands a moment count next = subst
      (λ (k : ℕ). FollowsPlan machine a a (copy_runs_plan moment count next) (copy_runs_plan moment k next))
      (sym (none_less count)) (led_still machine stands a (copy_runs_plan moment count next))

  -- A body.

  pub body_none : AlwaysStands machine → (a : S) (moment : Moment) (blocks size : ℕ) (next : Plan) → blocks ≡ 0
      → FollowsPlan machine a a (copy_body_plan moment blocks size next) next
  body_none stands a moment blocks size next e = subst (λ (l : Plan). FollowsPlan machine a a l next)
      (sym (none_in_body moment blocks size next e)) (led_still machine stands a next)

  -- whole blocks come first
  pub body_led : (a b : S) (moment : Moment) (blocks size : ℕ) (next rest : Plan) → 0 < blocks
      → FollowsPlan machine a b (copy_blocks_plan moment (blocks - 1) (copy_last_plan moment blocks size next)) rest
      → FollowsPlan machine a b (copy_body_plan moment blocks size next) rest
  body_led a b moment blocks size next rest h p = subst (λ (l : Plan). FollowsPlan machine a b l rest)
      (sym (body_copied moment blocks size next h)) p

-- Lists of events that follow one another.
module _ {S : Type 0} (machine : S → Machine) (moment : Moment) where
  pub second_led : (a b c : S) (first second : List Event) (f s t : List Event) (next rest : Plan) → first ≡ f
      → second ≡ s → ((then : Plan) → FollowsPlan machine a b (each moment first then) then)
      → FollowsPlan machine b c (each moment second (each moment t next)) rest
      → FollowsPlan machine a c (each moment (f ++ (s ++ t)) next) rest
  second_led a b c first second f s t next rest is_first is_second p q =
      led_on machine a b c (each moment (f ++ (s ++ t)) next) (each moment (s ++ t) next) rest
      (led_first machine a b moment first f (s ++ t) next (each moment (s ++ t) next) is_first
      (p (each moment (s ++ t) next))) (led_first machine b c moment second s t next rest is_second q)

  pub third_led : (a b c d : S) (first second third : List Event) (f s t : List Event) (next rest : Plan)
      → first ≡ f → second ≡ s → third ≡ t
      → ((then : Plan) → FollowsPlan machine a b (each moment first then) then)
      → ((then : Plan) → FollowsPlan machine b c (each moment second then) then)
      → FollowsPlan machine c d (each moment third next) rest
      → FollowsPlan machine a d (each moment (f ++ (s ++ t)) next) rest
  third_led a b c d first second third f s t next rest is_first is_second is_third p q r =
      led_on machine a b d (each moment (f ++ (s ++ t)) next) (each moment (s ++ t) next) rest
      (led_first machine a b moment first f (s ++ t) next (each moment (s ++ t) next) is_first
      (p (each moment (s ++ t) next)))
      (led_on machine b c d (each moment (s ++ t) next) (each moment t next) rest
      (led_first machine b c moment second s t next (each moment t next) is_second (q (each moment t next)))
      (led_each machine c d moment third t next rest is_third r))

pub not_none : (n : ℕ) → n ≢ 0 → 0 < n
not_none n h = omega arith

-- The rest of whole blocks: the runs, and then the blocks that don't fill a run.

abbrev pub singles_behind : Moment → ℕ → Plan → Plan
singles_behind moment blocks next = each moment (list_events 128) (copy_runs_plan moment (blocks % blocks_at_once) next)

abbrev pub runs_behind : Moment → ℕ → Plan → Plan
runs_behind moment blocks next = copy_runs_plan moment (blocks / blocks_at_once) (singles_behind moment blocks next)

-- The plan of a copy: all of it, the rest after its size is known, and the rest after its words are moved.

abbrev pub closed_then : Moment → Plan → Plan
closed_then moment next = each moment (call_event moment (Close 2 0) ∷ []) next

abbrev pub copied_then : Moment → Plan → ℕ → Plan
copied_then moment next size = copy_body_plan moment (blocks_said size) size
    (until_end moment (closed_then moment next))

abbrev pub copied_all : Moment → Spec → Spec → Plan → Plan
copied_all moment to from next = each moment (lookup_events moment from ++ enter_events moment to ++ list_events 128)
    (examines moment (file_words + 3) (copied_then moment next))
