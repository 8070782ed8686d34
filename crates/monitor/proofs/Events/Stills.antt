-- Reading holds still along a list of events.
use Rattle.std.proofs.Common.{◌≡◌, ℕ, Bool, true, false, if◌then◌else◌, List, [], ◌∷◌, ◌++◌, length, Option, None}
use Rattle.std.proofs.Common.{Some, refl, ap, subst, ⊎_elim, arith}
use Rattle.std.specs.Prelude.{◌||◌, is_none, nat_lt}
use Rattle.words36.specs.declared.moment.Moment.{Moment}
use Rattle.spec_machine.specs.Common.{SpareAll, in_answer, in_done, core_filled, words_ahead, body_read, lacks_header}
use Rattle.spec_machine.specs.Common.{reads, Channel, SpecJob, SpecInput, State, channel_at, job_at, with_job}
use Rattle.spec_machine.specs.Common.{stopped_in}
use Rattle.spec_machine.specs.Common.{Service, Serving, Broken, Answers, AnswersAll, step, last_date, on_job}
use Rattle.spec_machine.specs.Common.{on_channel, of_job}
use Rattle.spec_image.specs.Common.{Pack, words_from}
use Rattle.spec_machine.specs.declared.call.Call.TheVariants.{Lookup, In}
use Rattle.spec_machine.specs.declared.call.Event.{Event}
use Rattle.spec_machine.specs.declared.call.Event.TheVariants.{Call as Calls}
use Rattle.spec_machine.specs.declared.call.Reply.{Reply}
use Rattle.spec_machine.specs.declared.call.Reply.TheVariants.{Done, Refused, Device, Failed, DateRange}
use Rattle.spec_machine.proofs.Common.{reading_holds, is_there, settled_by, slot-set_same}
use Rattle.spec_machine.proofs.LookupLaws.{passed_test}
use Rattle.monitor.specs.Common.{RunsThrough, ReadsWhatWasFound, ReadsItsBody, FoundIsRead, BodyIsRead, HoldsStill}
use Rattle.monitor.specs.Common.{last_of}
use Rattle.monitor.proofs.Events.MomentRuns.{through_run}

-- A run of two lists is a run of the first one and a run of the second.
through_parts : (pack : Pack) (old : Service) (before behind : List Event) (first last : List Reply)
    (one rest : List Service)
    → length first ≡ length before → length one ≡ length before
    → RunsThrough pack old (before ++ behind) (first ++ last) (one ++ rest)
    → RunsThrough pack old before first one × RunsThrough pack (last_of old one) behind last rest
through_parts pack old [] behind [] last [] rest even equal run = (tt, run)
through_parts pack old [] behind [] last (x ∷ one) rest even equal run = absurd (omega (arith, equal))
through_parts pack old [] behind (r ∷ first) last one rest even equal run = absurd (omega (arith, even))
through_parts pack old (e ∷ before) behind [] last one rest even equal run = absurd (omega (arith, even))
through_parts pack old (e ∷ before) behind (r ∷ first) last [] rest even equal run = absurd (omega (arith, equal))
through_parts pack old (e ∷ before) behind (r ∷ first) last (x ∷ one) rest even equal run =
    let parts = through_parts pack x before behind first last one rest (omega (arith, even))
    (omega (arith, equal)) run.1 in
    ((run.0, parts.0), parts.1)

not_failed : Done ≡ Failed → ⊥
not_failed e = cc

not_device : Done ≡ Device → ⊥
not_device e = cc

module _ (pack : Pack) (between : List Event) (second : List Reply) (n ch e a : ℕ) (early late : Moment)
    (spared : SpareAll n ch between) where
  -- if the service had failed, no answer is Done
  by_services : (found looked read left : Service) → Answers pack found (Calls n (Lookup ch e) early) Done looked
      → AnswersAll pack looked between second read
      → Answers pack read (Calls n (In ch a) late) Done left → ReadsWhatWasFound found read left n ch e a
  by_services Broken Broken read left looks on reads = absurd (not_failed looks)
  by_services Broken (Serving y) read left looks on reads = absurd looks
  by_services (Serving x) Broken read left looks on reads = absurd (not_device looks.0)
  by_services (Serving x) (Serving y) Broken Broken looks on reads = absurd (not_failed reads)
  by_services (Serving x) (Serving y) Broken (Serving z) looks on reads = absurd reads
  by_services (Serving x) (Serving y) (Serving z) Broken looks on reads = absurd (not_device reads.0)
  by_services (Serving x) (Serving y) (Serving z) (Serving w) looks on reads =
      let holds = reading_holds pack x y z w n ch e a early late between second looks on spared reads in
      record {
        found_in = x;
        read_in = z;
        left_in = w;
        found_is = refl;
        read_is = refl;
        left_is = refl;
        version = holds.0;
        names = holds.1;
        moves = holds.2;
      }

found_is_read : (pack : Pack) (old : Service) (events : List Event) (replies : List Reply) (services : List Service)
    → RunsThrough pack old events replies services → FoundIsRead old events replies services
found_is_read pack old events replies services run before between behind first second third one two three
    looked left n ch e a early late is =
    let ran =
    subst (λ ss. RunsThrough pack old (before ++ Calls n (Lookup ch e) early
    ∷ (between ++ Calls n (In ch a) late ∷ behind)) (first ++ Done ∷ (second ++ Done ∷ third)) ss)
    is.services_are
    (subst (λ es. RunsThrough pack old es (first ++ Done ∷ (second ++ Done ∷ third)) services) is.events_are
    (subst (λ rs. RunsThrough pack old events rs services) is.replies_are run)) in
    let to = through_parts pack old before (Calls n (Lookup ch e) early ∷ (between ++ Calls n (In ch a) late ∷ behind))
    first (Done ∷ (second ++ Done ∷ third))
    one (looked ∷ (two ++ left ∷ three)) is.in_order.0 is.in_order.1 ran in
    let on = through_parts pack looked between (Calls n (In ch a) late ∷ behind) second (Done ∷ third) two
    (left ∷ three) is.in_step.0 is.in_step.1 to.1.1 in
    by_services pack between second n ch e a early late is.spared (last_of old one) looked (last_of looked two) left
    to.1.0 (through_run pack looked between second two on.0) on.1.0

-- An IN that is done moves words of the body that its channel reads.

or_left : (a b : Bool) → (a || b) ≡ false → a ≡ false
or_left true b e = let wrong = e in cc
or_left false b e = refl

abbrev Fills : SpecJob → Channel → ℕ → Reply × SpecJob → Type 0
Fills job c a r = r.0 ≡ Done → (side : SpecInput) × (c.input ≡ Some side)
    × (r.1.core ≡ core_filled job c a (words_from (body_read side c.output) side.next))

row_fills : (job : SpecJob) (ch : ℕ) (c : Channel) (a : ℕ) → Fills job c a (reads job ch c a)
row_fills job ch c a = settled_by (Fills job c a) (in_answer job c a) (in_done job ch c a) (stopped_in job ch c)
    (λ is done.
    let on = passed_test (is_none c.input || lacks_header c.mode c.input_header) (Refused 5) _ (λ x. cc) is in
    let side = is_there c.input (or_left (is_none c.input) (lacks_header c.mode c.input_header) on.0) in
    (side.0, side.1, ap (λ i. core_filled job c a (words_ahead i c.output)) side.1))
    (λ differs done. absurd (differs done))

abbrev Moves : State → ℕ → ℕ → ℕ → Reply × State → Type 0
Moves s n ch a r = r.0 ≡ Done → ReadsItsBody (Serving s) (Serving r.1) n ch a

moves_on_channel : (s : State) (n : ℕ) (job : SpecJob) (ch a : ℕ) → job_at s n ≡ Some job → (o : Option Channel)
    → channel_at job ch ≡ o → Moves s n ch a (on_channel s o (λ c. of_job s n (reads job ch c a)))
moves_on_channel s n job ch a there None f done = let wrong = done in cc
moves_on_channel s n job ch a there (Some c) f done =
    let filled = row_fills job ch c a done in
    record {
      read_in = s;
      left_in = with_job s n (reads job ch c a).1;
      read_is = refl;
      left_is = refl;
      job = job;
      channel = c;
      side = filled.0;
      after = (reads job ch c a).1;
      job_is = there;
      channel_is = f;
      side_is = filled.1;
      after_is = slot-set_same s.jobs n (reads job ch c a).1 job there;
      core_is = filled.2;
    }

moves_on_job : (s : State) (n ch a : ℕ) (o : Option SpecJob) → job_at s n ≡ o
    → Moves s n ch a (on_job s o (λ job. on_channel s (channel_at job ch) (λ c. of_job s n (reads job ch c a))))
moves_on_job s n ch a None f done = let wrong = done in cc
moves_on_job s n ch a (Some job) f done = moves_on_channel s n job ch a f (channel_at job ch) refl done

moves_if : (s : State) (n ch a : ℕ) (late : Bool) (r : Reply × State) → Moves s n ch a r
    → Moves s n ch a (if late then (DateRange, s) else r)
moves_if s n ch a true r h done = let wrong = done in cc
moves_if s n ch a false r h done = h done

in_moves : (pack : Pack) (serial : ℕ) (s : State) (n ch a : ℕ) (moment : Moment)
    → Moves s n ch a (step pack serial s (Calls n (In ch a) moment))
in_moves pack serial s n ch a moment =
    moves_if s n ch a (nat_lt (last_date pack.layout) moment.date) _ (moves_on_job s n ch a (job_at s n) refl)

-- if the service had failed, no answer is Done
in_service : (pack : Pack) (read left : Service) (n ch a : ℕ) (moment : Moment)
    → Answers pack read (Calls n (In ch a) moment) Done left → ReadsItsBody read left n ch a
in_service pack Broken Broken n ch a moment answer = absurd (not_failed answer)
in_service pack Broken (Serving u) n ch a moment answer = absurd answer
in_service pack (Serving s) Broken n ch a moment answer = absurd (not_device answer.0)
in_service pack (Serving s) (Serving u) n ch a moment answer = ⊎_elim
    (λ steps. subst (Moves s n ch a) steps.2 (in_moves pack steps.0 s n ch a moment) refl)
    (λ none. let wrong = none.0 in cc) answer

body_is_read : (pack : Pack) (old : Service) (events : List Event) (replies : List Reply) (services : List Service)
    → RunsThrough pack old events replies services → BodyIsRead old events replies services
body_is_read pack old events replies services run before behind first second one two left n ch a moment is =
    let ran =
    subst (λ ss. RunsThrough pack old (before ++ Calls n (In ch a) moment ∷ behind) (first ++ Done ∷ second) ss)
    is.services_are
    (subst (λ es. RunsThrough pack old es (first ++ Done ∷ second) services) is.events_are
    (subst (λ rs. RunsThrough pack old events rs services) is.replies_are run)) in
    let to = through_parts pack old before (Calls n (In ch a) moment ∷ behind) first (Done ∷ second) one (left ∷ two)
    is.in_order.0 is.in_order.1 ran in
    in_service pack (last_of old one) left n ch a moment to.1.0

pub holds_still : (pack : Pack) (old : Service) (events : List Event) (replies : List Reply) (services : List Service)
    → RunsThrough pack old events replies services → HoldsStill old events replies services
holds_still pack old events replies services run = (
  found_is_read pack old events replies services run,
  body_is_read pack old events replies services run,
)
