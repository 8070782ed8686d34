use Rattle.std.proofs.Common.{subst, sym}
use Rattle.spec_language.specs.Common.{deposit_events}
use Rattle.commands.specs.Common.{HasDone, machine_of}
use Rattle.commands.proofs.AtOnce.{words_done}
use Rattle.commands.proofs.entry.MonitorFileService.deposit_all.Goals as goal

pub returns-clause-done : goal.returns-clause-done
returns-clause-done g c is =
    let old = c.args.self.now in
    subst (λ new. HasDone (λ m. machine_of (g.D.Disk.state m.disk) m.map m.failed m.jobs) old new
    (deposit_events c.args.first c.args.words.now)) (sym c.deposit_all.ensures.kept)
    (words_done g.D.Disk.state g.met.D.Disk.only_now old.disk old.map old.failed old.layout c.args.words.now
    c.args.first old.jobs
    c.deposit_all.new.self.jobs (c.deposit_all.ensures.done is))
