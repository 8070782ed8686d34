use Rattle.spec_machine.specs.declared.call.Call.TheVariants.{Rename}
use Rattle.monitor.proofs.common.Promised.{alone_serves}
use Rattle.monitor.proofs.rename.serve_rename.Goals as goal

pub returns-in-None-clause-serving : goal.returns-in-None-clause-serving
returns-in-None-clause-serving g c = λ moment timely.
    let volume = c.args.volume.now in
    let ready = c.requires.ready in
    let told = c.rename_nothing.ensures in
    alone_serves g.D.Disk.state g.met.D.Disk.only_now volume.disk volume.map volume.failed c.args.job.now
    c.rename_nothing.new.job (Rename c.args.channel c.args.address) moment c.rename_nothing.result ready.alive
    ready.placed timely told.row told.keeps told.reads told.only told.refused told.decided
