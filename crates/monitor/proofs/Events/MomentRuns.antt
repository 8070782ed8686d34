-- A run, moment by moment, continues by one event.
use Rattle.std.proofs.Common.{◌≡◌, List, [], ◌∷◌, ◌++◌, refl, sym, subst, ◌∙◌}
use Rattle.blockdisk.specs.Common.{DiskState, LeavesOnly}
use Rattle.spec_machine.specs.Common.{StandsForEither, State, Service, Serving, Broken, Answers, AnswersAll}
use Rattle.spec_image.specs.Common.{Pack}
use Rattle.spec_machine.specs.declared.call.Event.{Event}
use Rattle.spec_machine.specs.declared.call.Reply.{Reply}
use Rattle.spec_machine.specs.declared.call.Reply.TheVariants.{Failed}
use Rattle.spec_machine.proofs.Common.{serving_same, not_broken}
use Rattle.monitor.specs.Common.{StandsNow, RunsThrough, RunsBy, last_of}

-- the service that comes last of all
pub last_more : (old : Service) (services : List Service) (after : Service)
    → last_of old (services ++ after ∷ []) ≡ after
last_more old [] after = refl
last_more old (service ∷ services) after = last_more service services after

module _ (pack : Pack) where
  -- a run through services is a run
  pub through_run : (old : Service) (events : List Event) (replies : List Reply) (services : List Service)
      → RunsThrough pack old events replies services → AnswersAll pack old events replies (last_of old services)
  through_run old [] [] [] r = refl
  through_run old [] [] (after ∷ services) r = absurd r
  through_run old [] (reply ∷ replies) services r = absurd r
  through_run old (event ∷ events) [] services r = absurd r
  through_run old (event ∷ events) (reply ∷ replies) [] r = absurd r
  through_run old (event ∷ events) (reply ∷ replies) (after ∷ services) r =
      (after, r.0, through_run after events replies services r.1)

  -- a service that has failed stays so
  pub through_broken : (events : List Event) (replies : List Reply) (services : List Service)
      → RunsThrough pack Broken events replies services
      → last_of Broken services ≡ Broken
  through_broken [] [] [] r = refl
  through_broken [] [] (after ∷ services) r = absurd r
  through_broken [] (reply ∷ replies) services r = absurd r
  through_broken (event ∷ events) [] services r = absurd r
  through_broken (event ∷ events) (reply ∷ replies) [] r = absurd r
  through_broken (event ∷ events) (reply ∷ replies) (Broken ∷ services) r = through_broken events replies services r.1
  through_broken (event ∷ events) (reply ∷ replies) (Serving s ∷ services) r = absurd r.0

  -- and answers one event more
  through_stay : (events : List Event) (replies : List Reply) (services : List Service) (event : Event)
      → RunsThrough pack Broken events replies services
      → RunsThrough pack Broken (events ++ event ∷ []) (replies ++ Failed ∷ []) (services ++ Broken ∷ [])
  through_stay [] [] [] event r = (refl, tt)
  through_stay [] [] (after ∷ services) event r = absurd r
  through_stay [] (reply ∷ replies) services event r = absurd r
  through_stay (e ∷ events) [] services event r = absurd r
  through_stay (e ∷ events) (reply ∷ replies) [] event r = absurd r
  through_stay (e ∷ events) (reply ∷ replies) (Broken ∷ services) event r =
      (r.0, through_stay events replies services event r.1)
  through_stay (e ∷ events) (reply ∷ replies) (Serving s ∷ services) event r = absurd r.0

module _ {D : Type 0} (state : D → DiskState) (pack : Pack) where
  -- it is a run through these services
  pub by_through : (d end : D) (old : Service) (events : List Event) (replies : List Reply) (services : List Service)
      → RunsBy state pack d old events replies services end → RunsThrough pack old events replies services
  by_through d end Broken events replies services r = r.1
  by_through d end (Serving s) [] [] [] r = tt
  by_through d end (Serving s) [] [] (after ∷ services) r = absurd r
  by_through d end (Serving s) [] (reply ∷ replies) services r = absurd r
  by_through d end (Serving s) (event ∷ events) [] services r = absurd r
  by_through d end (Serving s) (event ∷ events) (reply ∷ replies) [] r = absurd r
  by_through d end (Serving s) (event ∷ events) (reply ∷ replies) (after ∷ services) r =
      (r.2, by_through r.1 end after events replies services r.4)

  -- it begins with no event
  pub by_start : (d : D) (s : State) → StandsNow pack (state d) s → RunsBy state pack d (Serving s) [] [] [] d
  by_start d s stands = (refl, stands)

  module _ (now next : D) (u : State) (event : Event) (reply : Reply) (after : Service)
      (answers : Answers pack (Serving u) event reply after)
      (leaves : LeavesOnly (state now) (state next) (StandsForEither pack u event reply))
      (end : RunsBy state pack next after [] [] [] next) where
    at_end : (d : D) (s : State) → now ≡ d → s ≡ u → StandsNow pack (state d) s
        → RunsBy state pack d (Serving s) (event ∷ []) (reply ∷ []) (after ∷ []) next
    at_end d s same is stands = (
      stands,
      next,
      subst (λ x. Answers pack (Serving x) event reply after) (sym is) answers,
      subst (λ x. LeavesOnly (state d) (state next) (StandsForEither pack x event reply)) (sym is)
          (subst (λ x. LeavesOnly (state x) (state next) (StandsForEither pack u event reply)) same leaves),
      end,
    )

    -- the event was answered from the state that was reached
    pub by_more : (d : D) (old : Service) (events : List Event) (replies : List Reply) (services : List Service)
        → RunsBy state pack d old events replies services now → last_of old services ≡ Serving u
        → RunsBy state pack d old (events ++ event ∷ []) (replies ++ reply ∷ []) (services ++ after ∷ []) next
    by_more d Broken events replies services r last = absurd
        (not_broken (sym last ∙ through_broken pack events replies services r.1))
    by_more d (Serving s) [] [] [] r last = at_end d s r.0 (serving_same last) r.1
    by_more d (Serving s) [] [] (x ∷ services) r last = absurd r
    by_more d (Serving s) [] (q ∷ replies) services r last = absurd r
    by_more d (Serving s) (e ∷ events) [] services r last = absurd r
    by_more d (Serving s) (e ∷ events) (q ∷ replies) [] r last = absurd r
    by_more d (Serving s) (e ∷ events) (q ∷ replies) (x ∷ services) r last =
        (r.0, r.1, r.2, r.3, by_more r.1 x events replies services r.4 last)

  -- After a fault of the disk it isn't called, and each event answers Failed.
  pub by_stay : (d now : D) (old : Service) (events : List Event) (replies : List Reply) (services : List Service)
      (event : Event)
      → RunsBy state pack d old events replies services now → last_of old services ≡ Broken
      → RunsBy state pack d old (events ++ event ∷ []) (replies ++ Failed ∷ []) (services ++ Broken ∷ []) now
  by_stay d now Broken events replies services event r last = (r.0, through_stay pack events replies services event r.1)
  by_stay d now (Serving s) [] [] [] event r last = absurd (not_broken last)
  by_stay d now (Serving s) [] [] (x ∷ services) event r last = absurd r
  by_stay d now (Serving s) [] (q ∷ replies) services event r last = absurd r
  by_stay d now (Serving s) (e ∷ events) [] services event r last = absurd r
  by_stay d now (Serving s) (e ∷ events) (q ∷ replies) [] event r last = absurd r
  by_stay d now (Serving s) (e ∷ events) (q ∷ replies) (x ∷ services) event r last =
      (r.0, r.1, r.2, r.3, by_stay r.1 now x events replies services event r.4 last)
