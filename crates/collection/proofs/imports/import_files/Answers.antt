use Rattle.commands.specs.Common.{machine_of}
use Rattle.collection.proofs.Acts.{import_run_goes, monitors_stand}
use Rattle.collection.proofs.EachLaws.{beside}
use Rattle.collection.proofs.imports.import_files.Goals as goal

pub returns-clause-goes : goal.returns-clause-goes
returns-clause-goes g c = import_run_goes (λ m. machine_of (g.D.Disk.state m.disk) m.map m.failed m.jobs)
    (monitors_stand g.D.Disk.state) c.args.task.now _
    (g.W.Write.contents c.args.writer.now)
    (g.W.Write.contents c.import_all.new.writer) (beside (g.H.HostFiles.acts c.args.host.now) c.args.monitor.now)
    (beside (g.H.HostFiles.acts c.import_all.new.host) c.import_all.new.monitor) c.import_all.result
    c.import_all.ensures
