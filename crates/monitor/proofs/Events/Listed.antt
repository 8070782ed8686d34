-- A list of events continues by one event.
use Rattle.std.proofs.Common.{◌≡◌, ◌⊎◌, inl, inr, ⊎_elim, true, List, [], ◌∷◌, ◌++◌, refl, sym, ap, subst, ◌∙◌}
use Rattle.std.specs.List.{AllByRecursion}
use Rattle.blockdisk.specs.Common.{DiskState, LeavesOnly, SameDisk, one_more}
use Rattle.spec_machine.specs.Common.{StandsForState, StandsForEither, RunsOn, State, Service, Serving, Broken}
use Rattle.spec_machine.specs.Common.{Answers}
use Rattle.spec_image.specs.Common.{pack_of, Pack}
use Rattle.spec_machine.specs.declared.call.Reply.{Reply}
use Rattle.spec_machine.specs.declared.call.Reply.TheVariants.{Done, Value, Refused, Stopped, NoChannel, AddressCheck}
use Rattle.spec_machine.specs.declared.call.Reply.TheVariants.{NoJob, NoMemory, Device, Failed, DateRange}
use Rattle.spec_machine.proofs.Common.{runs_start, runs_served, runs_failed, runs_stay}
use Rattle.monitor.specs.Common.{StandsNow, RunsBy, HoldsStill, last_of, TellsFault, FailsOnce, Serves, MonitorState}
use Rattle.spec_machine.specs.declared.call.Event.{Event}
use Rattle.monitor.proofs.Events.EventCrashes.{state_stands}
use Rattle.monitor.proofs.common.ServedPacks.{event_keeps_pack}
use Rattle.monitor.proofs.Events.MomentRuns.{last_more, by_through, by_start, by_more, by_stay}
use Rattle.monitor.proofs.Events.Stills.{holds_still}

-- Lists that are one longer.

events_more : (events : List Event) (event : Event) → (events ++ event ∷ []) ≡ events ++ event ∷ []
events_more [] event = refl
events_more (e ∷ events) event = ap (λ es. e ∷ es) (events_more events event)

module _ {X : Type 0} (P : X → Type 0) where
  pub all_more : (xs : List X) (x : X) → AllByRecursion P xs → P x → AllByRecursion P (xs ++ x ∷ [])
  all_more [] x all is = (is, tt)
  all_more (y ∷ xs) x all is = (all.0, all_more xs x all.1 is)

  pub all_front : (xs : List X) (x : X) → AllByRecursion P (xs ++ x ∷ []) → AllByRecursion P xs × P x
  all_front [] x all = (tt, all.0)
  all_front (y ∷ xs) x all =
      let rest = all_front xs x all.1 in
      ((all.0, rest.0), rest.1)

is_fault : (reply : Reply) → (reply ≡ Device) ⊎ (reply ≡ Device → ⊥)
is_fault Done = inr (λ e. cc)
is_fault (Value word) = inr (λ e. cc)
is_fault (Refused code) = inr (λ e. cc)
is_fault (Stopped status) = inr (λ e. cc)
is_fault NoChannel = inr (λ e. cc)
is_fault AddressCheck = inr (λ e. cc)
is_fault NoJob = inr (λ e. cc)
is_fault NoMemory = inr (λ e. cc)
is_fault Device = inl refl
is_fault Failed = inr (λ e. cc)
is_fault DateRange = inr (λ e. cc)

tells_parts : (replies : List Reply) (reply : Reply) → TellsFault (replies ++ reply ∷ [])
    → TellsFault replies ⊎ (reply ≡ Device)
tells_parts [] reply tells = ⊎_elim (λ is. inr is) (λ none. absurd none) tells
tells_parts (r ∷ replies) reply tells = ⊎_elim (λ is. inl (inl is))
    (λ later. ⊎_elim (λ told. inl (inr told)) (λ is. inr is) (tells_parts replies reply later)) tells

tells_or_not : (replies : List Reply) → TellsFault replies ⊎ AllByRecursion (λ reply. reply ≡ Device → ⊥) replies
tells_or_not [] = inr tt
tells_or_not (r ∷ replies) = ⊎_elim (λ is. inl (inl is))
    (λ other. ⊎_elim (λ told. inl (inr told)) (λ none. inr (other, none)) (tells_or_not replies)) (is_fault r)

once_more : (replies : List Reply) (reply : Reply) → FailsOnce replies → (TellsFault replies → reply ≡ Failed)
    → FailsOnce (replies ++ reply ∷ [])
once_more [] reply once later = (λ e. tt, tt)
once_more (r ∷ replies) reply once later = (
  λ e. all_more (λ x. x ≡ Failed) replies reply (once.0 e) (later (inl e)),
  once_more replies reply once.1 (λ told. later (inr told)),
)

-- The run.

module _ {D : Type 0} (state : D → DiskState) where
  -- while the service serves, its disk has the pack that it had at the beginning
  abbrev IsPackKept : MonitorState D → MonitorState D → Service → Type 0
  IsPackKept first now Broken = Unit {0}
  IsPackKept first now (Serving s) = pack_of (state now.disk) ≡ pack_of (state first.disk)

  -- the run of these events from the value `first`, through these services, which has led to the value `now`
  abbrev pub RunsTo : MonitorState D → MonitorState D → State → List Event → List Reply → List Service → Type 0
  RunsTo first now s events replies services =
      RunsOn (pack_of (state first.disk)) (state now.disk) (state first.disk).clock (Serving s) events replies
      (last_of (Serving s) services)
      × RunsBy state (pack_of (state first.disk)) first.disk (Serving s) events replies services now.disk

  -- what was served so far, since the value `first`
  abbrev pub Ran : MonitorState D → MonitorState D → List Event → List Reply → Type 0
  Ran first now events replies =
      (state now.disk).honest → (s : State) → Serves (state first.disk) first.map first.failed first.jobs (Serving s)
      → (services : List Service) × Serves (state now.disk) now.map now.failed now.jobs (last_of (Serving s) services)
      × RunsTo first now s events replies services × IsPackKept first now (last_of (Serving s) services)

  pub ran_start : (first : MonitorState D) → Ran first first [] []
  ran_start first h s serves =
      let stands = state_stands (state first.disk) first.map first.jobs s serves.1 in (
        [],
        serves,
        (
          runs_start (pack_of (state first.disk)) (state first.disk) s stands,
          by_start state (pack_of (state first.disk)) first.disk s stands,
        ),
        refl,
      )

  -- reading holds still along it
  abbrev pub RanStill : MonitorState D → MonitorState D → List Event → List Reply → Type 0
  RanStill first now events replies =
      (state now.disk).honest → (s : State) → Serves (state first.disk) first.map first.failed first.jobs (Serving s)
      → (services : List Service) × Serves (state now.disk) now.map now.failed now.jobs (last_of (Serving s) services)
      × RunsOn (pack_of (state first.disk)) (state now.disk) (state first.disk).clock (Serving s) events replies
      (last_of (Serving s) services)
      × RunsBy state (pack_of (state first.disk)) first.disk (Serving s) events replies services now.disk
      × HoldsStill (Serving s) events replies services

  pub ran_still : (first now : MonitorState D) (events : List Event) (replies : List Reply)
      → Ran first now events replies → RanStill first now events replies
  ran_still first now events replies ran h s serves =
      let led = ran h s serves in (
        led.0,
        led.1,
        led.2.0,
        led.2.1,
        holds_still (pack_of (state first.disk)) (Serving s) events replies led.0
            (by_through state (pack_of (state first.disk)) first.disk now.disk
            (Serving s) events replies led.0 led.2.1),
      )

  module _ (first old new : MonitorState D) (events : List Event) (replies : List Reply) (event : Event)
      (reply : Reply) where
    abbrev pack : Pack
    pack = pack_of (state first.disk)

    abbrev d : DiskState
    d = state old.disk

    abbrev d' : DiskState
    d' = state new.disk

    -- what one event ensures
    abbrev pub IsAnswered : Type 0
    IsAnswered =
        d'.honest → (s : Service) → Serves d old.map old.failed old.jobs s
        → (t : Service) × Serves d' new.map new.failed new.jobs t × Answers (pack_of d) s event reply t

    abbrev pub Crashes : Type 0
    Crashes = d'.honest → (s : State) → Serves d old.map old.failed old.jobs (Serving s)
        → LeavesOnly d d' (StandsForEither (pack_of d) s event reply)

    abbrev pub Stays : Type 0
    Stays = old.failed ≡ true → (reply ≡ Failed) × (new ≡ old)

    -- the run with one event more, one reply more, and one service more
    abbrev More : MonitorState D → State → List Service → Reply → Service → Type 0
    More m s services r t =
        RunsOn pack (state m.disk) (state first.disk).clock (Serving s) (events ++ event ∷ []) (replies ++ r ∷ []) t
        × RunsBy state pack first.disk (Serving s) (events ++ event ∷ []) (replies ++ r ∷ []) (services
        ++ t ∷ []) m.disk

    abbrev Goal : State → Type 0
    Goal s =
        (services : List Service) × Serves d' new.map new.failed new.jobs (last_of (Serving s) services)
        × RunsTo first new s (events ++ event ∷ []) (replies ++ reply ∷ []) services
        × IsPackKept first new (last_of (Serving s) services)

    led_on : (s : State) (services : List Service) (t : Service) → Serves d' new.map new.failed new.jobs t
        → More new s services reply t → IsPackKept first new t → Goal s
    led_on s services t serves more kept =
        let spelled = sym (events_more events event) in
        let last = sym (last_more (Serving s) services t) in (
          services ++ t ∷ [],
          subst (λ x. Serves d' new.map new.failed new.jobs x) last serves,
          (
            subst (λ x. RunsOn pack d' (state first.disk).clock (Serving s) (events ++ event ∷ [])
                (replies ++ reply ∷ []) x) last
                (subst (λ es. RunsOn pack d' (state first.disk).clock (Serving s) es (replies ++ reply ∷ []) t)
                spelled more.0),
            subst (λ es. RunsBy state pack first.disk (Serving s) es (replies ++ reply ∷ []) (services
                ++ t ∷ []) new.disk) spelled more.1,
          ),
          subst (IsPackKept first new) last kept,
        )

    stayed : (s : State) (services : List Service) → old.failed ≡ true → last_of (Serving s) services ≡ Broken
        → RunsTo first old s events replies services
        → (reply ≡ Failed) × (new ≡ old) → Goal s
    stayed s services failed last runs is = led_on s services Broken (ap (λ m. m.failed) is.1 ∙ failed)
        (subst (λ (m : MonitorState D). More m s services reply Broken) (sym is.1)
        (subst (λ r. More old s services r Broken) (sym is.0) (
          runs_stay pack d (state first.disk).clock (Serving s) events replies event
              (subst (λ x. RunsOn pack d (state first.disk).clock (Serving s) events replies x) last runs.0),
          by_stay state pack first.disk old.disk (Serving s) events replies services event runs.1 last,
        ))) tt

    went_on : (s u : State) (services : List Service) → SameDisk d d' → pack_of d ≡ pack
        → last_of (Serving s) services ≡ Serving u
        → RunsTo first old s events replies services → LeavesOnly d d' (StandsForEither pack u event reply)
        → (t : Service) → Serves d' new.map new.failed new.jobs t → Answers pack (Serving u) event reply t → Goal s
    went_on s u services same was last runs leaves Broken serves a = led_on s services Broken serves (
      runs_failed pack d d' u event reply leaves (state first.disk).clock (Serving s) events replies
          (subst (λ x. RunsOn pack d (state first.disk).clock (Serving s) events replies x) last runs.0) a,
      by_more state pack old.disk new.disk u event reply Broken a leaves (refl, tt) first.disk
          (Serving s) events replies services runs.1 last,
    ) tt
    went_on s u services same was last runs leaves (Serving v) serves a =
        let kept : pack_of d' ≡ pack = event_keeps_pack d d' new.map new.jobs u v event reply same.size
        (subst (λ p. LeavesOnly d d' (StandsForEither p u event reply)) (sym was) leaves) serves.1 ∙ was in
        let stands : StandsNow pack d' v = λ c left. subst (λ p. StandsForState p v c) kept
        (state_stands d' new.map new.jobs v serves.1 c left) in
        led_on s services (Serving v) serves (
          runs_served pack d d' u event reply leaves v (state first.disk).clock (Serving s) events replies
              (subst (λ x. RunsOn pack d (state first.disk).clock (Serving s) events replies x) last runs.0) a stands,
          by_more state pack old.disk new.disk u event reply (Serving v) a leaves (refl, stands) first.disk
              (Serving s) events replies services runs.1 last,
        ) kept

    pub ran_more : SameDisk d d' → IsAnswered → Crashes → Stays → Ran first old events replies
        → Ran first new (events ++ event ∷ []) (replies ++ reply ∷ [])
    ran_more once answered crash stays ran h s serves =
        let led = ran (once.was_honest h) s serves in
        let last = last_of (Serving s) led.0 in
        on led.0 last refl led.1 led.2 led.3
      where
        on : (services : List Service) (mid : Service) → last_of (Serving s) services ≡ mid
            → Serves d old.map old.failed old.jobs mid
            → RunsTo first old s events replies services → IsPackKept first old mid → Goal s
        on services Broken last failed runs kept = stayed s services failed last runs (stays failed)
        on services (Serving u) last mid runs kept =
            let after = answered h (Serving u) mid in
            went_on s u services once kept last runs (subst (λ p. LeavesOnly d d'
            (StandsForEither p u event reply)) kept
            (crash h u mid)) after.0 after.1
            (subst (λ p. Answers p (Serving u) event reply after.0) kept after.2)

    -- Faults of the device.

    pub told_more : Stays → (reply ≡ Device → new.failed ≡ true) → (TellsFault replies → old.failed ≡ true)
        → TellsFault (replies ++ reply ∷ []) → new.failed ≡ true
    told_more stays failed told tells = ⊎_elim (λ before. ap (λ m. m.failed) (stays (told before)).1
        ∙ told before) failed (tells_parts replies reply tells)

    pub counted_more : Stays → (TellsFault replies → old.failed ≡ true)
        → (reply ≡ Device → d'.failures ≡ one_more d.failures) → ((reply ≡ Device → ⊥) → d'.failures ≡ d.failures)
        → (AllByRecursion (λ x. x ≡ Device → ⊥) replies → d.failures ≡ (state first.disk).failures)
        → (TellsFault replies → d.failures ≡ one_more (state first.disk).failures)
        → TellsFault (replies ++ reply ∷ []) → d'.failures ≡ one_more (state first.disk).failures
    counted_more stays told counted served none some tells =
        ⊎_elim (λ before. served (λ e. absurd (cc (e, (stays (told before)).0))) ∙ some before)
        (λ is. counted is
        ∙ ap one_more (⊎_elim (λ before. absurd (cc (is, (stays (told before)).0))) none (tells_or_not replies)))
        (tells_parts replies reply tells)

    pub served_more : ((reply ≡ Device → ⊥) → d'.failures ≡ d.failures)
        → (AllByRecursion (λ x. x ≡ Device → ⊥) replies → d.failures ≡ (state first.disk).failures)
        → AllByRecursion (λ x. x ≡ Device → ⊥) (replies ++ reply ∷ []) → d'.failures ≡ (state first.disk).failures
    served_more served none all =
        let parts = all_front (λ x. x ≡ Device → ⊥) replies reply all in
        served parts.1 ∙ none parts.0

    pub failed_once : Stays → (TellsFault replies → old.failed ≡ true) → FailsOnce replies
        → FailsOnce (replies ++ reply ∷ [])
    failed_once stays told once = once_more replies reply once (λ before. (stays (told before)).0)

    pub broken_more : Stays → (first.failed ≡ true → AllByRecursion (λ x. x ≡ Failed) replies × (old ≡ first))
        → first.failed ≡ true → AllByRecursion (λ x. x ≡ Failed) (replies ++ reply ∷ []) × (new ≡ first)
    broken_more stays broken failed =
        let was = broken failed in
        let is = stays (ap (λ m. m.failed) was.1 ∙ failed) in
        (all_more (λ x. x ≡ Failed) replies reply was.0 is.0, is.1 ∙ was.1)
