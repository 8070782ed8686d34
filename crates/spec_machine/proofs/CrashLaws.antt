-- The moments of a run, one event after another.
use Rattle.std.proofs.Common.{◌≡◌, ℕ, ◌≤◌, List, [], ◌∷◌, ◌++◌, refl, sym, subst, ◌⊎◌, arith}
use Rattle.blockdisk.specs.Common.{Contents, DiskState, MayLeave, LeavesOnly, between_on, leaves_between}
use Rattle.spec_machine.specs.Jobs.{State}
use Rattle.spec_image.specs.Common.{Pack}
use Rattle.spec_machine.specs.Runs.{Service, Serving, Broken, Answers, AnswersAll}
use Rattle.spec_machine.specs.Crashes.{StandsForState, StandsForEither, RunsOn}
use Rattle.spec_machine.specs.declared.call.Event.{Event}
use Rattle.spec_machine.specs.declared.call.Reply.{Reply}
use Rattle.spec_machine.specs.declared.call.Reply.TheVariants.{Failed}
use Rattle.spec_machine.proofs.LookupLaws.{serving_same, not_broken, broken_stays}
use Rattle.spec_machine.proofs.RunLaws.{run-push}

sooner : (t clock : ℕ) → t ≡ clock → t ≤ clock
sooner t clock e = omega (arith, e)

on_time : (t u clock : ℕ) → t ≤ u → u ≤ clock → t ≤ clock
on_time t u clock a b = omega (arith, a, b)

-- the moment was before the disk's present one
before_now : (pack : Pack) (d : DiskState) (t : ℕ) (old : Service) (s : State) (events : List Event)
    (replies : List Reply) → RunsOn pack d t old events replies (Serving s) → t ≤ d.clock
before_now pack d t Broken s events replies r = absurd (not_broken (broken_stays pack events replies (Serving s) r))
before_now pack d t (Serving x) s [] [] r = sooner t d.clock r.1
before_now pack d t (Serving x) s [] (reply ∷ replies) r = absurd r
before_now pack d t (Serving x) s (event ∷ events) [] r = absurd r
before_now pack d t (Serving x) s (event ∷ events) (reply ∷ replies) (Broken, a, r) = absurd
    (not_broken (broken_stays pack events replies (Serving s) r.0))
before_now pack d t (Serving x) s (event ∷ events) (reply ∷ replies) (Serving mid, a, r) = on_time t r.0 d.clock r.1
    (before_now pack d r.0 (Serving mid) s events replies r.3)

-- A run with moments is a run.
pub is_run : (pack : Pack) (d : DiskState) (t : ℕ) (old new : Service) (events : List Event) (replies : List Reply)
    → RunsOn pack d t old events replies new → AnswersAll pack old events replies new
is_run pack d t Broken new events replies r = r
is_run pack d t (Serving s) new [] [] r = r.0
is_run pack d t (Serving s) new [] (reply ∷ replies) r = absurd r
is_run pack d t (Serving s) new (event ∷ events) [] r = absurd r
is_run pack d t (Serving s) new (event ∷ events) (reply ∷ replies) (Broken, a, r) = (Broken, a, r.0)
is_run pack d t (Serving s) new (event ∷ events) (reply ∷ replies) (Serving mid, a, r) =
    (Serving mid, a, is_run pack d r.0 (Serving mid) new events replies r.3)

-- it begins with no event
pub runs_start : (pack : Pack) (d : DiskState) (s : State) → ((c : Contents) → MayLeave d c → StandsForState pack s c)
    → RunsOn pack d d.clock (Serving s) [] [] (Serving s)
runs_start pack d s stands = (refl, refl, stands)

module _ (pack : Pack) (d d' : DiskState) (s : State) (event : Event) (reply : Reply)
    (leaves : LeavesOnly d d' (StandsForEither pack s event reply)) where
  -- the event was answered, and what a crash leaves then stands for the files after it
  served_end : (after x : State) (t : ℕ) → Answers pack (Serving x) event reply (Serving after) → s ≡ x
      → t ≡ d.clock → ((c : Contents) → MayLeave d' c → StandsForState pack after c)
      → RunsOn pack d' t (Serving x) (event ∷ []) (reply ∷ []) (Serving after)
  served_end after x t a same now stands = (
    Serving after,
    a,
    (
      d'.clock,
      subst (λ k. k ≤ d'.clock) (sym now) leaves.time.later,
      subst (λ k. (c : Contents) → d'.left_since k c → d'.left_since d'.clock c
          ⊎ StandsForEither pack x event reply c) (sym now)
          (subst (λ y. (c : Contents) → d'.left_since d.clock c → d'.left_since d'.clock c
          ⊎ StandsForEither pack y event reply c) same
          (leaves_between d d' (StandsForEither pack s event reply) d'.clock leaves)),
      (refl, refl, stands),
    ),
  )

  pub runs_served : (after : State) (t : ℕ) (old : Service) (events : List Event) (replies : List Reply)
      → RunsOn pack d t old events replies (Serving s)
      → Answers pack (Serving s) event reply (Serving after)
      → ((c : Contents) → MayLeave d' c → StandsForState pack after c)
      → RunsOn pack d' t old (events ++ event ∷ []) (replies ++ reply ∷ []) (Serving after)
  runs_served after t Broken events replies r a stands = absurd
      (not_broken (broken_stays pack events replies (Serving s) r))
  runs_served after t (Serving x) [] [] r a stands =
      let same : s ≡ x = serving_same r.0 in
      served_end after x t (subst (λ y. Answers pack (Serving y) event reply (Serving after)) same a) same r.1 stands
  runs_served after t (Serving x) [] (q ∷ replies) r a stands = absurd r
  runs_served after t (Serving x) (e ∷ events) [] r a stands = absurd r
  runs_served after t (Serving x) (e ∷ events) (q ∷ replies) (Broken, b, r) a stands = absurd
      (not_broken (broken_stays pack events replies (Serving s) r.0))
  runs_served after t (Serving x) (e ∷ events) (q ∷ replies) (Serving mid, b, r) a stands =
      let u = before_now pack d r.0 (Serving mid) s events replies r.3 in (
        Serving mid,
        b,
        (
          r.0,
          r.1,
          between_on d d' (StandsForEither pack x e q) (StandsForEither pack s event reply) t r.0
              (on_time t r.0 d.clock r.1 u) u leaves.time r.2,
          runs_served after r.0 (Serving mid) events replies r.3 a stands,
        ),
      )

  -- the disk had a fault in the event
  failed_end : (x : State) (t : ℕ) → Answers pack (Serving x) event reply Broken → s ≡ x → t ≡ d.clock
      → RunsOn pack d' t (Serving x) (event ∷ []) (reply ∷ []) Broken
  failed_end x t a same now = (
    Broken,
    a,
    (
      refl,
      subst (λ k. (c : Contents) → d'.left_since k c → StandsForEither pack x event reply c) (sym now)
          (subst (λ y. (c : Contents) → d'.left_since d.clock c
          → StandsForEither pack y event reply c) same leaves.since),
    ),
  )

  pub runs_failed : (t : ℕ) (old : Service) (events : List Event) (replies : List Reply)
      → RunsOn pack d t old events replies (Serving s)
      → Answers pack (Serving s) event reply Broken
      → RunsOn pack d' t old (events ++ event ∷ []) (replies ++ reply ∷ []) Broken
  runs_failed t Broken events replies r a = absurd (not_broken (broken_stays pack events replies (Serving s) r))
  runs_failed t (Serving x) [] [] r a =
      let same : s ≡ x = serving_same r.0 in
      failed_end x t (subst (λ y. Answers pack (Serving y) event reply Broken) same a) same r.1
  runs_failed t (Serving x) [] (q ∷ replies) r a = absurd r
  runs_failed t (Serving x) (e ∷ events) [] r a = absurd r
  runs_failed t (Serving x) (e ∷ events) (q ∷ replies) (Broken, b, r) a = absurd
      (not_broken (broken_stays pack events replies (Serving s) r.0))
  runs_failed t (Serving x) (e ∷ events) (q ∷ replies) (Serving mid, b, r) a =
      let u = before_now pack d r.0 (Serving mid) s events replies r.3 in (
        Serving mid,
        b,
        (
          r.0,
          r.1,
          between_on d d' (StandsForEither pack x e q) (StandsForEither pack s event reply) t r.0
              (on_time t r.0 d.clock r.1 u) u leaves.time r.2,
          runs_failed r.0 (Serving mid) events replies r.3 a,
        ),
      )

-- After that the disk isn't called, and each event is answered with Failed.
pub runs_stay : (pack : Pack) (d : DiskState) (t : ℕ) (old : Service) (events : List Event) (replies : List Reply)
    (event : Event) → RunsOn pack d t old events replies Broken
    → RunsOn pack d t old (events ++ event ∷ []) (replies ++ Failed ∷ []) Broken
runs_stay pack d t Broken events replies event r = run-push pack Broken Broken Broken events replies event Failed r refl
runs_stay pack d t (Serving x) [] [] event r = absurd (not_broken (sym r.0))
runs_stay pack d t (Serving x) [] (q ∷ replies) event r = absurd r
runs_stay pack d t (Serving x) (e ∷ events) [] event r = absurd r
runs_stay pack d t (Serving x) (e ∷ events) (q ∷ replies) event
    (Broken, b, r) = (Broken, b, (run-push pack Broken Broken Broken events replies event Failed r.0 refl, r.1))
runs_stay pack d t (Serving x) (e ∷ events) (q ∷ replies) event (Serving mid, b, r) =
    (Serving mid, b, (r.0, r.1, r.2, runs_stay pack d r.0 (Serving mid) events replies event r.3))
