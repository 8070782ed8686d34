-- What a LOOKUP found is what the channel reads after it, over every run that leaves it its input side.
use Rattle.std.proofs.Common.{◌≡◌, ℕ, Bool, true, false, if◌then◌else◌, List, [], ◌∷◌, Option, Some, None, refl, sym}
use Rattle.std.proofs.Common.{ap, subst, ◌∙◌, ◌≢◌, option_map, ⊎_elim}
use Rattle.std.specs.Prelude.{nat_lt, ◌==◌, ◌||◌, not, is_none, is_some}
use Rattle.words36.specs.declared.moment.Moment.{Moment}
use Rattle.spec_image.specs.Common.{Place, SpecVersion, file_at, words_from, Pack}
use Rattle.spec_machine.specs.Rights.{may_look}
use Rattle.spec_machine.specs.Cores.{lies_outside}
use Rattle.spec_machine.specs.Jobs.{Channel, SpecJob, SpecInput, SpecOutput, State, channel_at, job_at}
use Rattle.spec_machine.specs.Lookup.{lookup, lookup_answer, lookup_done, looked_up, place_at, has_no_directory}
use Rattle.spec_machine.specs.Lookup.{is_absent, directory_digit_at}
use Rattle.spec_machine.specs.Inputs.{in_answer, in_done, core_filled, words_ahead, reads}
use Rattle.spec_machine.specs.Outcomes.{stopped_in, refused_at}
use Rattle.spec_machine.specs.Step.{step, last_date, on_job, on_channel, of_job}
use Rattle.spec_machine.specs.Runs.{Service, Serving, Broken, Answers, AnswersAll}
use Rattle.spec_machine.specs.PinnedVersions.{SparesEvent, SpareAll, version_read, pinned_on, pinned_in, pinned_for}
use Rattle.spec_machine.specs.PinnedVersions.{pinned_at}
use Rattle.spec_machine.specs.PinnedVersions.{FoundBy, MovesWordsOf}
use Rattle.spec_machine.specs.declared.call.Call.TheVariants.{Lookup, In}
use Rattle.spec_machine.specs.declared.call.Event.{Event}
use Rattle.spec_machine.specs.declared.call.Event.TheVariants.{Call as Calls}
use Rattle.spec_machine.specs.declared.call.Reply.{Reply}
use Rattle.spec_machine.specs.declared.call.Reply.TheVariants.{Done, Refused, AddressCheck, DateRange}
use Rattle.spec_machine.proofs.OutcomeLaws.{settled_by}
use Rattle.spec_machine.proofs.SlotLaws.{slot-set_same}
use Rattle.spec_machine.proofs.PinnedLaws.{event_held, words_held}

-- Over a run.

pub serving_same : {s t : State} → Serving s ≡ Serving t → s ≡ t
serving_same {s} e = ap served e
  where
    served : Service → State
    served (Serving t) = t
    served Broken = s

pub not_broken : {s : State} → Serving s ≡ Broken → ⊥
not_broken e = cc

pub broken_stays : (pack : Pack) (events : List Event) (replies : List Reply) (new : Service)
    → AnswersAll pack Broken events replies new → new ≡ Broken
broken_stays pack [] [] new r = r
broken_stays pack [] (reply ∷ replies) new r = absurd r
broken_stays pack (event ∷ events) [] new r = absurd r
broken_stays pack (event ∷ events) (reply ∷ replies) new (Serving after, a, r) = absurd a
broken_stays pack (event ∷ events) (reply ∷ replies) new (Broken, a, r) = broken_stays pack events replies new r

answers_held : (pack : Pack) (s t : State) (event : Event) (reply : Reply) (n ch : ℕ) (v : SpecVersion)
    → Answers pack (Serving s) event reply (Serving t) → SparesEvent n ch event → pinned_at s n ch ≡ Some v
    → pinned_at t n ch ≡ Some v
answers_held pack s t event reply n ch v a spared h = ⊎_elim
    (λ steps. subst (λ r. pinned_at r.1 n ch ≡ Some v) steps.2 (event_held pack steps.0 s n ch v event spared h))
    (λ none. subst (λ x. pinned_at x n ch ≡ Some v) (sym none.1) h) a

pub run_held : (pack : Pack) (s t : State) (events : List Event) (replies : List Reply) (n ch : ℕ) (v : SpecVersion)
    → AnswersAll pack (Serving s) events replies (Serving t) → SpareAll n ch events → pinned_at s n ch ≡ Some v
    → pinned_at t n ch ≡ Some v
run_held pack s t [] [] n ch v r spared h = subst (λ x. pinned_at x n ch ≡ Some v) (sym (serving_same r)) h
run_held pack s t [] (reply ∷ replies) n ch v r spared h = absurd r
run_held pack s t (event ∷ events) [] n ch v r spared h = absurd r
run_held pack s t (event ∷ events) (reply ∷ replies) n ch v (Serving mid, a, r) spared h =
    run_held pack mid t events replies n ch v r spared.1 (answers_held pack s mid event reply n ch v a spared.0 h)
run_held pack s t (event ∷ events) (reply ∷ replies) n ch v (Broken, a, r) spared h = absurd
    (not_broken (broken_stays pack events replies (Serving t) r))

-- A LOOKUP that is done.

pub passed_test : (b : Bool) (stop rest : Reply) → stop ≢ Done → (if b then stop else rest) ≡ Done
    → (b ≡ false) × (rest ≡ Done)
passed_test true stop rest differs e = absurd (differs e)
passed_test false stop rest differs e = (refl, e)

pub or_right : (a b : Bool) → (a || b) ≡ false → b ≡ false
or_right true b e = let wrong = e in cc
or_right false b e = e

pub is_there : {X : Type 0} (x : Option X) → is_none x ≡ false → (y : X) × (x ≡ Some y)
is_there None e = let wrong = e in cc
is_there (Some y) e = (y, refl)

-- what the channel pins after it, by what was found
looked_up_holds : (pack : Pack) (job : SpecJob) (ch : ℕ) (c : Channel) (e : ℕ) (place : Place)
    (found : Option SpecVersion)
    (v : SpecVersion)
    → channel_at job ch ≡ Some c → c.output ≡ None → found ≡ Some v
    → pinned_in (looked_up pack job ch c e place found) ch
    ≡ Some v
looked_up_holds pack job ch c e place None v there none f = let wrong = f in cc
looked_up_holds pack job ch c e place (Some w) v there none f =
    ap pinned_on (slot-set_same job.channels ch _ c there)
    ∙ ap (λ o. version_read o (Some (record { place = place; version = w; next = 1 }))) none ∙ f

pub is_none_of : {X : Type 0} (x : Option X) → is_some x ≡ false → x ≡ None
is_none_of None e = refl
is_none_of (Some y) e = let wrong = e in cc

-- the channel had no output side, and the name is there
lookup_needs : (s : State) (job : SpecJob) (c : Channel) (e : ℕ) (place : Place) → lookup_answer s job c e place ≡ Done
    → (c.output ≡ None) × (v : SpecVersion) × (file_at s.files place ≡ Some v)
lookup_needs s job c e place done =
    let a = passed_test (lies_outside job.core e 4) AddressCheck _ (λ x. cc) done in
    let b = passed_test (is_some c.output) (Refused 5) _ (λ x. cc) a.1 in
    let d = passed_test (has_no_directory s place) (Refused 1) _ (λ x. cc) b.1 in
    let f = passed_test (not (may_look (directory_digit_at s job place))) (Refused 2) _ (λ x. cc) d.1 in
    let g = passed_test ((place.name.name == 0) || is_absent s place) (Refused 0) _ (λ x. cc) f.1 in
    let h = is_there (file_at s.files place) (or_right (place.name.name == 0) (is_absent s place) g.0) in
    (is_none_of c.output b.0, h.0, h.1)

-- the row
abbrev Looked : State → SpecJob → ℕ → ℕ → Reply × SpecJob → Type 0
Looked s job ch e r = r.0 ≡ Done → (v : SpecVersion) × (file_at s.files (place_at job e) ≡ Some v)
    × (pinned_in r.1 ch ≡ Some v)

row_looks : (pack : Pack) (s : State) (job : SpecJob) (ch : ℕ) (c : Channel) (e : ℕ) → channel_at job ch ≡ Some c
    → Looked s job ch e (lookup pack s job ch c e)
row_looks pack s job ch c e there =
    settled_by (Looked s job ch e) (lookup_answer s job c e (place_at job e))
    (lookup_done pack s job ch c e (place_at job e)) (refused_at job e)
    (λ is done. let needs = lookup_needs s job c e (place_at job e) is in (
      needs.1,
      needs.2,
      looked_up_holds pack job ch c e (place_at job e)
          (file_at s.files (place_at job e)) needs.1 there needs.0 needs.2,
    ))
    (λ differs done. absurd (differs done))

-- the event
abbrev Finds : State → ℕ → ℕ → ℕ → Reply × State → Type 0
Finds s n ch e r = r.0 ≡ Done → (v : SpecVersion) × FoundBy s n e v × (pinned_at r.1 n ch ≡ Some v)

finds_on_channel : (pack : Pack) (s : State) (n : ℕ) (job : SpecJob) (ch e : ℕ) → job_at s n ≡ Some job
    → (o : Option Channel) → channel_at job ch ≡ o
    → Finds s n ch e (on_channel s o (λ c. of_job s n (lookup pack s job ch c e)))
finds_on_channel pack s n job ch e there None f done = let wrong = done in cc
finds_on_channel pack s n job ch e there (Some c) f done =
    let h = row_looks pack s job ch c e f done in
    (h.0, (job, there, h.1), ap (pinned_for ch) (slot-set_same s.jobs n (lookup pack s job ch c e).1 job there) ∙ h.2)

finds_on_job : (pack : Pack) (s : State) (n ch e : ℕ) (o : Option SpecJob) → job_at s n ≡ o
    → Finds s n ch e (on_job s o (λ job. on_channel s (channel_at job ch) (λ c. of_job s n (lookup pack s job ch c e))))
finds_on_job pack s n ch e None f done = let wrong = done in cc
finds_on_job pack s n ch e (Some job) f done = finds_on_channel pack s n job ch e f (channel_at job ch) refl done

finds_if : (s : State) (n ch e : ℕ) (late : Bool) (r : Reply × State) → Finds s n ch e r
    → Finds s n ch e (if late then (DateRange, s) else r)
finds_if s n ch e true r h done = let wrong = done in cc
finds_if s n ch e false r h done = h done

pub lookup_finds : (pack : Pack) (serial : ℕ) (s : State) (n ch e : ℕ) (moment : Moment)
    → Finds s n ch e (step pack serial s (Calls n (Lookup ch e) moment))
lookup_finds pack serial s n ch e moment =
    finds_if s n ch e (nat_lt (last_date pack.layout) moment.date) _ (finds_on_job pack s n ch e (job_at s n) refl)

-- An IN that is done.

abbrev Filled : SpecJob → Channel → ℕ → Reply × SpecJob → Type 0
Filled job c a r = r.0 ≡ Done → r.1.core ≡ core_filled job c a (words_ahead c.input c.output)

row_fills : (job : SpecJob) (ch : ℕ) (c : Channel) (a : ℕ) → Filled job c a (reads job ch c a)
row_fills job ch c a = settled_by (Filled job c a) (in_answer job c a) (in_done job ch c a) (stopped_in job ch c)
    (λ is done. refl) (λ differs done. absurd (differs done))

-- the input side of a channel that pins a version
side_of : (o : Option SpecOutput) (i : Option SpecInput) (v : SpecVersion) → version_read o i ≡ Some v
    → (side : SpecInput) × (i ≡ Some side)
side_of (Some o) i v e = let wrong = e in cc
side_of None None v e = let wrong = e in cc
side_of None (Some i) v e = (i, refl)

abbrev Moves : State → ℕ → ℕ → ℕ → SpecVersion → Reply × State → Type 0
Moves s n ch a v r = r.0 ≡ Done → MovesWordsOf s r.1 n ch a v

moves_on_channel : (s : State) (n : ℕ) (job : SpecJob) (ch a : ℕ) (v : SpecVersion) → job_at s n ≡ Some job
    → (o : Option Channel) → channel_at job ch ≡ o → pinned_on o ≡ Some v
    → Moves s n ch a v (on_channel s o (λ c. of_job s n (reads job ch c a)))
moves_on_channel s n job ch a v there None f h done = let wrong = done in cc
moves_on_channel s n job ch a v there (Some c) f h done =
    let side = side_of c.output c.input v h in
    let words : words_ahead c.input c.output
    ≡ words_from v.file.body side.0.next = words_held v c.output c.input h side.0.next
    (ap (option_map (λ i. i.next)) side.1) in
    record {
      job = job;
      channel = c;
      side = side.0;
      after = (reads job ch c a).1;
      job_is = there;
      channel_is = f;
      side_is = side.1;
      after_is = slot-set_same s.jobs n (reads job ch c a).1 job there;
      core_is = row_fills job ch c a done ∙ ap (core_filled job c a) words;
    }

moves_on_job : (s : State) (n ch a : ℕ) (v : SpecVersion) (o : Option SpecJob) → job_at s n ≡ o
    → pinned_for ch o ≡ Some v
    → Moves s n ch a v (on_job s o (λ job. on_channel s (channel_at job ch) (λ c. of_job s n (reads job ch c a))))
moves_on_job s n ch a v None f h done = let wrong = done in cc
moves_on_job s n ch a v (Some job) f h done = moves_on_channel s n job ch a v f (channel_at job ch) refl h done

moves_if : (s : State) (n ch a : ℕ) (v : SpecVersion) (late : Bool) (r : Reply × State) → Moves s n ch a v r
    → Moves s n ch a v (if late then (DateRange, s) else r)
moves_if s n ch a v true r h done = let wrong = done in cc
moves_if s n ch a v false r h done = h done

pub in_moves : (pack : Pack) (serial : ℕ) (s : State) (n ch a : ℕ) (v : SpecVersion) (moment : Moment)
    → pinned_at s n ch ≡ Some v → Moves s n ch a v (step pack serial s (Calls n (In ch a) moment))
in_moves pack serial s n ch a v moment h =
    moves_if s n ch a v (nat_lt (last_date pack.layout) moment.date) _ (moves_on_job s n ch a v (job_at s n) refl h)

-- Both, with a run between them.

done_steps : (pack : Pack) (s t : State) (event : Event) → Answers pack (Serving s) event Done (Serving t)
    → (serial : ℕ) × (step pack serial s event ≡ (Done, t))
done_steps pack s t event a = ⊎_elim (λ steps. (steps.0, steps.2)) (λ none. let wrong = none.0 in cc) a

pub reading_holds : (pack : Pack) (s s' t u : State) (n ch e a : ℕ) (first last : Moment) (events : List Event)
    (replies : List Reply)
    → Answers pack (Serving s) (Calls n (Lookup ch e) first) Done (Serving s')
    → AnswersAll pack (Serving s') events replies (Serving t) → SpareAll n ch events
    → Answers pack (Serving t) (Calls n (In ch a) last) Done (Serving u) → (v : SpecVersion) × FoundBy s n e v
    × MovesWordsOf t u n ch a v
reading_holds pack s s' t u n ch e a first last events replies look run spared take =
    let l = done_steps pack s s' (Calls n (Lookup ch e) first) look in
    let i = done_steps pack t u (Calls n (In ch a) last) take in
    let found = subst (Finds s n ch e) l.1 (lookup_finds pack l.0 s n ch e first) refl in
    let held = run_held pack s' t events replies n ch found.0 run spared found.2 in
    (found.0, found.1, subst (Moves t n ch a found.0) i.1 (in_moves pack i.0 t n ch a found.0 last held) refl)
