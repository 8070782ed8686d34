use Rattle.std.proofs.Common.{◌≡◌, sym, subst}
use Rattle.spec_image.specs.Common.{pack_in, pack_of, StandsOn, without_serials}
use Rattle.spec_machine.specs.Common.{Serving, IsStart}
use Rattle.spec_image.proofs.Common.{stands_in_any}
use Rattle.monitor.specs.Common.{ServesFiles, Serves}
use Rattle.monitor.proofs.Events.Along.{no_fault, ok_each, ok_pair, start_in}
use Rattle.commands.proofs.StoppedLaws.{found_left}
use Rattle.volume.proofs.common.PassedErrors.{found_named}
use Rattle.commands.proofs.restart.start_after_acts.Goals as goal

pub returns : goal.returns
returns g c h begun acts goes size s serves starts stopped =
    let e = g.E.Disk.state c.args.left in
    let layout = (pack_of (g.D.Disk.state begun.disk)).layout in
    let pack = pack_in layout e.size in
    let went = goes.went h (Serving s) serves in
    let found = found_left g.D.Disk.state g.E.Disk.state begun c.args.stopped.now s acts went.0
    (λ x is. g.met.D.Disk.only_now begun.disk x (goes.was_honest h) is) goes.size went.2
    starts e.contents e.size size stopped in
    let files = without_serials found.0.files in (
      found.0,
      found.1,
      ok_pair (λ m. (g.E.Disk.state m.disk).honest)
          (λ m. pack_of (g.E.Disk.state m.disk) ≡ pack_of (g.D.Disk.state begun.disk))
          (λ m. ServesFiles (g.E.Disk.state m.disk) m.map m.failed m.jobs files) c.start.result
          (start_in (λ m. (g.E.Disk.state m.disk).honest) (λ m. g.E.Disk.state m.disk) _ e
          (pack_of (g.D.Disk.state begun.disk)) files (sym size)
          (subst (λ n. StandsOn (pack_in layout n) e.contents files)
          size found.2) c.start.result c.start.ensures.same c.start.ensures.stood)
          (ok_each (IsStart files) (λ m. (g.E.Disk.state m.disk).honest)
          (λ u m. Serves (g.E.Disk.state m.disk) m.map m.failed m.jobs (Serving u)) c.start.result
          (c.start.ensures.started files (stands_in_any pack e.contents files found.2))),
      found_named _ _ _ c.start.result (λ refused is kept h'. no_fault e (g.E.Disk.state refused.1) layout files found.2
          refused.0 (is h') (kept h')) c.start.ensures.refused c.start.ensures.kept,
    )
