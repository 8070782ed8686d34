use Rattle.std.proofs.Common.{inl, inr, subst}
use Rattle.commands.specs.Common.{machine_of}
use Rattle.collection.specs.Common.{EachDone, IsEntryDone, none_counted}
use Rattle.collection.proofs.EachLaws.{beside}
use Rattle.collection.proofs.MovedParts.{made_at, no_folder}
use Rattle.collection.proofs.exports.fill_folder.Goals as goal

pub returns-in-Ok : goal.returns-in-Ok
returns-in-Ok g c =
    let directory = c.args.directory.now in
    inr (inl (
      c.if-directory.false,
      subst (λ made. EachDone (IsEntryDone (λ m. machine_of (g.D.Disk.state m.disk) m.map m.failed m.jobs)
          directory.task.now directory.owner) c.args.listed.now.entries.now none_counted
          (g.W.Write.contents c.args.writer.now) (g.W.Write.contents c.export_entries-in-Ok.new.writer) made
          (beside (g.H.HostFiles.acts c.export_entries-in-Ok.new.host) c.export_entries-in-Ok.new.monitor)
          c.export_entries-in-Ok.result) (made_at _ _ _ _ _ c.args.monitor.now c.requires c.in-Ok.ensures)
          c.export_entries-in-Ok.ensures,
    ))

pub returns-in-Err : goal.returns-in-Err
returns-in-Err g c = inr (inr (
  c.if-directory.false,
  no_folder _ _ _ _ _ _ _ _ c.requires c.in-Err.ensures c.turn_down.ensures,
))
