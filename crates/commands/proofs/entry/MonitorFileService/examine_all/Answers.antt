use Rattle.commands.proofs.AtOnce.{all_shown}
use Rattle.commands.proofs.entry.MonitorFileService.examine_all.Goals as goal

pub returns : goal.returns
returns g c =
    let m = c.args.self.now in
    all_shown g.D.Disk.state g.met.D.Disk.only_now m.disk m.map m.failed m.layout (λ words. words.now) m.jobs
    c.args.first
    c.args.count c.examine_all.result c.examine_all.ensures.length c.examine_all.ensures.answered
