use Rattle.std.proofs.Common.{◌≡◌, ⊎_elim, inl, inr, sym, subst, ◌∙◌}
use Rattle.std.specs.Prelude.{IsTrue}
use Rattle.std.proofs.lemmas.Result.{IfOk-weaker, IfErr-weaker}
use Rattle.spec_machine.specs.Common.{may_change, State, Serving, IsStart, step}
use Rattle.spec_image.specs.Common.{pack_in, pack_of, StandsOn, without_serials}
use Rattle.spec_image.proofs.Common.{stands_in_any}
use Rattle.monitor.specs.Common.{Serves, ServesFiles}
use Rattle.monitor.proofs.Events.Along.{along, no_fault, stopped_like, stands_again, ok_each, ok_either, ok_and}
use Rattle.monitor.proofs.Events.Along.{ok_pair, start_in}
use Rattle.volume.proofs.common.PassedErrors.{found_named}
use Rattle.monitor.proofs.restart.start_after_crash.Goals as goal

pub returns-clause-found : goal.returns-clause-found
returns-clause-found g c h size pack blocks t s events replies new runs starts stopped =
    let d = g.D.Disk.state c.args.stopped.now in
    let e = g.E.Disk.state c.args.left in
    let first = stopped_like g.E.Disk.state d t starts e.contents stopped in
    let found = along pack d (λ x is. g.met.D.Disk.only_now c.args.stopped.now x h is) first.0 t
    s events replies new runs first.1 in
    let files = without_serials found.0.files in
    let here : StandsOn (pack_in pack.layout e.size) e.contents files =
    subst (λ n. StandsOn (pack_in pack.layout n) e.contents files) (sym size)
    (first.2 pack.layout files (subst (λ n. StandsOn (pack_in pack.layout n) first.0 files) blocks found.2)) in (
      found.0,
      found.1,
      ok_pair (λ m. (g.E.Disk.state m.disk).honest) (λ m. pack_of (g.E.Disk.state m.disk) ≡ pack)
          (λ m. ServesFiles (g.E.Disk.state m.disk) m.map m.failed m.jobs files) c.start.result
          (start_in (λ m. (g.E.Disk.state m.disk).honest) (λ m. g.E.Disk.state m.disk) _ e pack files (blocks
          ∙ sym size)
          (subst (λ n. StandsOn (pack_in pack.layout n) e.contents files) (size ∙ sym blocks) here) c.start.result
          c.start.ensures.same c.start.ensures.stood)
          (ok_each (IsStart files) (λ m. (g.E.Disk.state m.disk).honest)
          (λ u m. Serves (g.E.Disk.state m.disk) m.map m.failed m.jobs (Serving u)) c.start.result
          (c.start.ensures.started files (stands_in_any (pack_in pack.layout e.size) e.contents files here))),
    )

pub returns-clause-refused : goal.returns-clause-refused
returns-clause-refused g c h size pack blocks t s events replies new runs starts stopped =
    let d = g.D.Disk.state c.args.stopped.now in
    let e = g.E.Disk.state c.args.left in
    let first = stopped_like g.E.Disk.state d t starts e.contents stopped in
    let found = along pack d (λ x is. g.met.D.Disk.only_now c.args.stopped.now x h is) first.0 t
    s events replies new runs first.1 in
    let files = without_serials found.0.files in
    let here : StandsOn (pack_in pack.layout e.size) e.contents files =
    subst (λ n. StandsOn (pack_in pack.layout n) e.contents files) (sym size)
    (first.2 pack.layout files (subst (λ n. StandsOn (pack_in pack.layout n) first.0 files) blocks found.2)) in
    found_named _ _ _ c.start.result (λ refused is kept h'. no_fault e (g.E.Disk.state refused.1) pack.layout files
    here refused.0 (is h') (kept h')) c.start.ensures.refused c.start.ensures.kept

pub returns-clause-between : goal.returns-clause-between
returns-clause-between g c size pack blocks t u s event reply between left not_later =
    let d = g.D.Disk.state c.args.stopped.now in
    let e = g.E.Disk.state c.args.left in
    let after = (step pack 0 s event).1 in
    let starts = λ (x : State) (is : StandsOn pack e.contents (without_serials x.files)).
    ok_each (IsStart (without_serials x.files)) (λ m. (g.E.Disk.state m.disk).honest)
    (λ v m. Serves (g.E.Disk.state m.disk) m.map m.failed m.jobs (Serving v)) c.start.result
    (c.start.ensures.started (without_serials x.files)
    (stands_in_any (pack_in pack.layout e.size) e.contents (without_serials x.files)
    (subst (λ n. StandsOn (pack_in pack.layout n) e.contents (without_serials x.files)) (blocks ∙ sym size) is))) in
    ok_either _ _ _ c.start.result (⊎_elim (λ later. absurd (not_later later))
    (λ either. ⊎_elim (λ is. inl (starts s is))
    (λ is. inr (ok_and (IsTrue (may_change reply)) _ _ c.start.result is.0 (starts after is.1))) either)
    (between e.contents left))

pub returns-clause-again : goal.returns-clause-again
returns-clause-again g c files all =
    IfOk-weaker c.start.result _ _ (λ m started h. stands_again (g.E.Disk.state c.args.left)
    (g.E.Disk.state m.disk) files all (started h)) c.start.ensures.crash

pub returns-clause-again_refused : goal.returns-clause-again_refused
returns-clause-again_refused g c files all =
    IfErr-weaker c.start.result _ _ (λ refused started h. stands_again (g.E.Disk.state c.args.left)
    (g.E.Disk.state refused.1) files all (started h)) c.start.ensures.crash_refused
