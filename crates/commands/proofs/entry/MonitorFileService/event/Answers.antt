use Rattle.std.proofs.Common.{sym, subst}
use Rattle.blockdisk.specs.Common.{Still, still_start}
use Rattle.commands.proofs.ServedMonitors.{event_kept}
use Rattle.commands.proofs.entry.MonitorFileService.event.Goals as goal

pub returns : goal.returns
returns g c =
    let m = c.args.self.now in
    let n = c.event.new.self in
    let d = g.D.Disk.state m.disk in
    let d' = g.D.Disk.state n.disk in
    let p = c.event.ensures in
    record {
      size = p.same.size;
      was_honest = p.same.was_honest;
      crash = λ h s serves. p.crash h s serves;
      broken = λ h failed. subst (λ x. Still d (g.D.Disk.state x.disk)) (sym (p.broken failed).1) (still_start d);
      answers = λ h old serves.
          let is = p.answered h old serves in (
            is.0,
            is.1,
            is.2,
            event_kept d d' m.map n.map m.failed n.failed m.jobs n.jobs c.args.event.now c.event.result old is.0
                p.same.size
                (p.crash h) serves is.1 is.2,
          );
      counted = (p.counted, p.served);
    }
