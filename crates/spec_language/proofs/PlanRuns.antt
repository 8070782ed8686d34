-- Plans that are run, event by event: each is done, or the line is refused and the files stay.
use Rattle.std.proofs.Common.{◌≡◌, ◌≢◌, ◌⊎◌, inl, inr, ⊎_elim, false, IsTrue, List, [], ◌∷◌, ◌++◌, refl, sym, ap, subst}
use Rattle.std.proofs.Common.{◌∙◌}
use Rattle.std.specs.List.{AllByRecursion}
use Rattle.words36.specs.declared.moment.Moment.{Moment}
use Rattle.spec_image.specs.Common.{Files, SpecVersion, Pack}
use Rattle.spec_machine.specs.Common.{State, Service, Serving, Broken, Answers, Steps}
use Rattle.spec_language.specs.Texts.{Spoken, refuses}
use Rattle.spec_language.specs.Plans.{Plan, Ask, Say, Act, Asks, Looks, ends, fails, if_done, each, call_event}
use Rattle.spec_language.specs.Transcripts.{Went}
use Rattle.spec_language.specs.Copies.{Comes, HasFiles, IsLineRefused}
use Rattle.spec_machine.specs.declared.call.Call.TheVariants.{Reset}
use Rattle.spec_machine.specs.declared.call.Event.{Event}
use Rattle.spec_machine.specs.declared.call.Reply.{Reply}
use Rattle.spec_machine.specs.declared.call.Reply.TheVariants.{Done, Value, Refused, Stopped, NoChannel, AddressCheck}
use Rattle.spec_machine.specs.declared.call.Reply.TheVariants.{NoJob, NoMemory, Device, Failed, DateRange}
use Rattle.spec_machine.proofs.Common.{IsQuiet, quiet_files, keeps_step}

-- A service that has failed stays so.
pub went_broken : (pack : Pack) (acts : List Act) (new : Service) → Went pack Broken acts new → new ≡ Broken
went_broken pack [] new w = w
went_broken pack (Asks event reply ∷ acts) new (Broken, does, rest) = went_broken pack acts new rest
went_broken pack (Asks event reply ∷ acts) new (Serving t, does, rest) = absurd does
went_broken pack (Looks owner answer ∷ acts) new (mid, does, rest) = went_broken pack acts new
    (subst (λ m. Went pack m acts new) does.1 rest)

-- The next event of a plan, its reply, and what comes next.
pub asked : (pack : Pack) (old : Service) (event : Event) (next : Reply → Plan) (said : Spoken) (new : Service)
    → Comes pack old (Ask event next) said new
    → (reply : Reply) × (mid : Service) × Answers pack old event reply mid × Comes pack mid (next reply) said new
asked pack old event next said new ([], led, went) = let wrong = led in cc
asked pack old event next said new (Asks other reply ∷ acts, led, (mid, does, went)) =
    (reply, mid, subst (λ e. Answers pack old e reply mid) led.0 does, (acts, led.1, went))
asked pack old event next said new (Looks owner answer ∷ acts, led, went) = absurd led

-- Nothing more is asked.
said_all : (pack : Pack) (old : Service) (told said : Spoken) (new : Service) → Comes pack old (Say told) said new
    → (said ≡ told) × (new ≡ old)
said_all pack old told said new ([], led, went) = let e = led in (cc, went)
said_all pack old told said new (act ∷ acts, led, went) = absurd led

-- What an event leaves of the files that isn't done.
undone_files : (pack : Pack) (s : State) (event : Event) (reply : Reply) (t : State) → reply ≢ Done
    → Steps pack s event reply t → t.files ≡ s.files
undone_files pack s event reply t differs (serial, fresh, e) = ap (λ r. r.1.files) (sym e)
    ∙ keeps_step pack serial s event (λ is. differs (ap (λ r. r.0) (sym e) ∙ is))

-- what an answer leaves of the files
pub answered_files : (pack : Pack) (s : State) (event : Event) (reply : Reply) (mid : Service)
    → ((t : State) → Steps pack s event reply t → t.files ≡ s.files) → Answers pack (Serving s) event reply mid
    → HasFiles s.files mid
answered_files pack s event reply Broken h a = tt
answered_files pack s event reply (Serving t) h (inl steps) = h t steps
answered_files pack s event reply (Serving t) h (inr none) = ap (λ x. x.files) none.1

answered_quiet : (pack : Pack) (files : Files SpecVersion) (old : Service) (event : Event) (reply : Reply)
    (new : Service)
    → IsQuiet event → HasFiles files old → Answers pack old event reply new → HasFiles files new
answered_quiet pack files Broken event reply Broken q h a = tt
answered_quiet pack files Broken event reply (Serving t) q h a = absurd a
answered_quiet pack files (Serving s) event reply new q h a = subst (λ f. HasFiles f new) h
    (answered_files pack s event reply new (λ t. quiet_files pack s event reply t q) a)

-- All channels are closed in the end, and this is printed.
pub ended : (pack : Pack) (files : Files SpecVersion) (old : Service) (moment : Moment) (told said : Spoken)
    (new : Service)
    → HasFiles files old → Comes pack old (ends moment told) said new → (said ≡ told) × HasFiles files new
ended pack files old moment told said new h c =
    let a = asked pack old (call_event moment Reset) (λ reply. Say told) said new c in
    let e = said_all pack a.1 told said new a.3 in
    (e.0, subst (HasFiles files) (sym e.1) (answered_quiet pack files old _ a.0 a.1 tt h a.2))

-- and a service that serves continues
reset_serves : (pack : Pack) (t : State) (moment : Moment) (reply : Reply) (mid : Service)
    → Answers pack (Serving t) (call_event moment Reset) reply mid
    → (after : State) × (mid ≡ Serving after) × (after.files ≡ t.files)
reset_serves pack t moment reply Broken (device, undecided, touches) = let wrong : IsTrue false = touches in cc
reset_serves pack t moment reply (Serving after) (inl steps) =
    (after, refl, quiet_files pack t (call_event moment Reset) reply after tt steps)
reset_serves pack t moment reply (Serving after) (inr (none, same, undecided, wants)) =
    let wrong : IsTrue false = wants in cc

pub goes_on : (pack : Pack) (t : State) (moment : Moment) (told said : Spoken) (new : Service)
    → Comes pack (Serving t) (ends moment told) said new
    → (said ≡ told) × ((after : State) × (new ≡ Serving after) × (after.files ≡ t.files))
goes_on pack t moment told said new c =
    let a = asked pack (Serving t) (call_event moment Reset) (λ reply. Say told) said new c in
    let e = said_all pack a.1 told said new a.3 in
    let r = reset_serves pack t moment a.0 a.1 a.2 in
    (e.0, (r.0, e.1 ∙ r.1, r.2))

refused : (files : Files SpecVersion) (reply : Reply) (said : Spoken) (new : Service)
    → (said ≡ refuses reply) × HasFiles files new → IsLineRefused files said new
refused files reply said new (e, h) = ((reply, e), h)

pub failed : (pack : Pack) (files : Files SpecVersion) (old : Service) (moment : Moment) (reply : Reply) (said : Spoken)
    (new : Service)
    → HasFiles files old → Comes pack old (fails moment reply) said new → IsLineRefused files said new
failed pack files old moment reply said new h c = refused files reply said new
    (ended pack files old moment (refuses reply) said new h c)

-- A reply is Done, or what comes next is a refusal.
done_or_fails : (moment : Moment) (next : Plan) (reply : Reply)
    → (reply ≡ Done) ⊎ ((reply ≢ Done) × (if_done moment next reply ≡ fails moment reply))
done_or_fails moment next Done = inl refl
done_or_fails moment next (Value w) = inr ((λ e. cc), refl)
done_or_fails moment next (Refused w) = inr ((λ e. cc), refl)
done_or_fails moment next (Stopped w) = inr ((λ e. cc), refl)
done_or_fails moment next NoChannel = inr ((λ e. cc), refl)
done_or_fails moment next AddressCheck = inr ((λ e. cc), refl)
done_or_fails moment next NoJob = inr ((λ e. cc), refl)
done_or_fails moment next NoMemory = inr ((λ e. cc), refl)
done_or_fails moment next Device = inr ((λ e. cc), refl)
done_or_fails moment next Failed = inr ((λ e. cc), refl)
done_or_fails moment next DateRange = inr ((λ e. cc), refl)

-- what is Done is a step of the machine
done_steps : (pack : Pack) (s : State) (event : Event) (reply : Reply) (mid : Service) → reply ≡ Done
    → Answers pack (Serving s) event reply mid → (t : State) × (mid ≡ Serving t) × Steps pack s event Done t
done_steps pack s event reply Broken done (device, undecided, touches) = let wrong = sym done ∙ device in cc
done_steps pack s event reply (Serving t) done (inl steps) = (t, refl, subst (λ r. Steps pack s event r t) done steps)
done_steps pack s event reply (Serving t) done (inr none) = let wrong = sym done ∙ none.0 in cc

-- An event that has to be done: it is, or the line is refused and the files stay.
pub one_done : (pack : Pack) (s : State) (moment : Moment) (event : Event) (next : Plan) (said : Spoken) (new : Service)
    → Comes pack (Serving s) (Ask event (if_done moment next)) said new
    → IsLineRefused s.files said new
    ⊎ ((t : State) × Steps pack s event Done t × Comes pack (Serving t) next said new)
one_done pack s moment event next said new c = by (asked pack (Serving s) event (if_done moment next) said new c)
  where
    by : ((reply : Reply) × (mid : Service) × Answers pack (Serving s) event reply mid
        × Comes pack mid (if_done moment next reply) said new)
        → IsLineRefused s.files said new
        ⊎ ((t : State) × Steps pack s event Done t × Comes pack (Serving t) next said new)
    by (reply, mid, answers, more) = ⊎_elim
        (λ done. let d = done_steps pack s event reply mid done answers in
        inr (
          d.0,
          d.2,
          subst (λ p. Comes pack (Serving d.0) p said new) (ap (if_done moment next) done)
              (subst (λ m. Comes pack m (if_done moment next reply) said new) d.1 more),
        ))
        (λ other. inl (failed pack s.files mid moment reply said new
        (answered_files pack s event reply mid (λ t. undone_files pack s event reply t other.0) answers)
        (subst (λ p. Comes pack mid p said new) other.1 more)))
        (done_or_fails moment next reply)

-- Events that are all done, one after the other.
abbrev pub AllDone : Pack → State → List Event → State → Type 0
AllDone pack s [] after = after ≡ s
AllDone pack s (event ∷ events) after = (t : State) × Steps pack s event Done t × AllDone pack t events after

pub split_done : (pack : Pack) (s : State) (xs ys : List Event) (after : State) → AllDone pack s (xs ++ ys) after
    → (mid : State) × AllDone pack s xs mid × AllDone pack mid ys after
split_done pack s [] ys after all = (s, refl, all)
split_done pack s (x ∷ xs) ys after (t, steps, rest) =
    let more = split_done pack t xs ys after rest in
    (more.0, (t, steps, more.1), more.2)

pub each_done : (pack : Pack) (s : State) (moment : Moment) (events : List Event) (next : Plan) (said : Spoken)
    (new : Service)
    → AllByRecursion IsQuiet events → Comes pack (Serving s) (each moment events next) said new
    → IsLineRefused s.files said new
    ⊎ ((t : State) × AllDone pack s events t × (t.files ≡ s.files) × Comes pack (Serving t) next said new)
unfolding each
each_done pack s moment [] next said new q c = inr (s, refl, refl, c)
each_done pack s moment (event ∷ events) next said new (here, others) c = ⊎_elim inl
    (λ (t, steps, more). behind t steps (each_done pack t moment events next said new others more))
    (one_done pack s moment event (each moment events next) said new c)
  where
    behind : (t : State) → Steps pack s event Done t
        → IsLineRefused t.files said new
        ⊎ ((u : State) × AllDone pack t events u × (u.files ≡ t.files) × Comes pack (Serving u) next said new)
        → IsLineRefused s.files said new
        ⊎ ((u : State) × AllDone pack s (event ∷ events) u × (u.files ≡ s.files) × Comes pack (Serving u) next said new)
    behind t steps (inl stopped) =
        inl (stopped.0, subst (λ f. HasFiles f new) (quiet_files pack s event Done t here steps) stopped.1)
    behind t steps (inr (u, all, same, more)) =
        inr (u, (t, steps, all), same ∙ quiet_files pack s event Done t here steps, more)
