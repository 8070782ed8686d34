use Rattle.std.proofs.Common.{inl, inr, refl, subst}
use Rattle.commands.specs.Common.{machine_of}
use Rattle.collection.specs.Common.{EachDone, IsOwnerDone, none_counted}
use Rattle.collection.proofs.EachLaws.{beside}
use Rattle.collection.proofs.MovedParts.{made_at}
use Rattle.collection.proofs.exports.export_owners.Goals as goal

pub returns-in-Ok : goal.returns-in-Ok
returns-in-Ok g c = inr (inl (
  c.if-task.false,
  subst (λ made. EachDone (IsOwnerDone (λ m. machine_of (g.D.Disk.state m.disk) m.map m.failed m.jobs)
      c.args.task.now) c.args.owners.now none_counted (g.W.Write.contents c.args.writer.now)
      (g.W.Write.contents c.export_directories-in-Ok.new.writer) made
      (beside (g.H.HostFiles.acts c.export_directories-in-Ok.new.host) c.export_directories-in-Ok.new.monitor)
      c.export_directories-in-Ok.result) (made_at _ _ _ _ _ c.args.monitor.now refl c.in-Ok.ensures)
      c.export_directories-in-Ok.ensures,
))
