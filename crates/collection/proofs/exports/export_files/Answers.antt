use Rattle.std.proofs.Common.{[], ◌∷◌, Ok, Err, refl, sym, subst}
use Rattle.commands.specs.Common.{AreAsked, machine_of}
use Rattle.commands.proofs.ErrandLaws.{none_there, not_asked}
use Rattle.collection.specs.Common.{AreOwnersDone}
use Rattle.collection.proofs.Acts.{exports_go, monitors_stand}
use Rattle.collection.proofs.EachLaws.{beside}
use Rattle.collection.proofs.MovedParts.{refused_as}
use Rattle.collection.proofs.exports.export_files.Goals as goal

pub returns-in-Some-clause-done : goal.returns-in-Some-clause-done
returns-in-Some-clause-done g c = record {
  owners = Ok (c.in-Some.owner ∷ []);
  asked = subst (λ o. AreAsked (machine_of (g.D.Disk.state c.args.monitor.now.disk) c.args.monitor.now.map
      c.args.monitor.now.failed c.args.monitor.now.jobs) o (Ok (c.in-Some.owner ∷ []))) (sym c.in-Some.is) refl;
  done = c.export_owners.ensures;
}

pub returns-in-Some-clause-goes : goal.returns-in-Some-clause-goes
returns-in-Some-clause-goes g c = exports_go (λ m. machine_of (g.D.Disk.state m.disk) m.map m.failed m.jobs)
    (monitors_stand g.D.Disk.state) c.args.task.now
    (g.W.Write.contents c.args.writer.now) (g.W.Write.contents c.export_owners.new.writer)
    (beside (g.H.HostFiles.acts c.args.host.now) c.args.monitor.now)
    (beside (g.H.HostFiles.acts c.export_owners.new.host) c.export_owners.new.monitor) c.export_owners.result
    (returns-in-Some-clause-done g c)

pub returns-in-Ok-clause-done : goal.returns-in-Ok-clause-done
returns-in-Ok-clause-done g c = record {
  owners = Ok c.in-Ok.owners.items;
  asked = subst (λ o. AreAsked (machine_of (g.D.Disk.state c.args.monitor.now.disk) c.args.monitor.now.map
      c.args.monitor.now.failed c.args.monitor.now.jobs) o (Ok c.in-Ok.owners.items))
      (sym (none_there c.args.task.now.owner c.in_default.not-Some)) c.in-Ok.ensures.value;
  done = subst (λ ns. AreOwnersDone (λ m. machine_of (g.D.Disk.state m.disk) m.map m.failed m.jobs) c.args.task.now ns
      (g.W.Write.contents c.args.writer.now) (g.W.Write.contents c.export_owners-in-Ok.new.writer)
      (beside (g.H.HostFiles.acts c.args.host.now) c.args.monitor.now)
      (beside (g.H.HostFiles.acts c.export_owners-in-Ok.new.host) c.export_owners-in-Ok.new.monitor)
      c.export_owners-in-Ok.result) c.deref.ensures.value
      c.export_owners-in-Ok.ensures;
}

pub returns-in-Ok-clause-goes : goal.returns-in-Ok-clause-goes
returns-in-Ok-clause-goes g c = exports_go (λ m. machine_of (g.D.Disk.state m.disk) m.map m.failed m.jobs)
    (monitors_stand g.D.Disk.state) c.args.task.now
    (g.W.Write.contents c.args.writer.now) (g.W.Write.contents c.export_owners-in-Ok.new.writer)
    (beside (g.H.HostFiles.acts c.args.host.now) c.args.monitor.now)
    (beside (g.H.HostFiles.acts c.export_owners-in-Ok.new.host) c.export_owners-in-Ok.new.monitor)
    c.export_owners-in-Ok.result (returns-in-Ok-clause-done g c)

pub returns-in-Err-clause-done : goal.returns-in-Err-clause-done
returns-in-Err-clause-done g c = record {
  owners = Err c.in-Err.reply;
  asked = subst (λ o. AreAsked (machine_of (g.D.Disk.state c.args.monitor.now.disk) c.args.monitor.now.map
      c.args.monitor.now.failed c.args.monitor.now.jobs) o (Err c.in-Err.reply))
      (sym (none_there c.args.task.now.owner c.in_default.not-Some))
      (not_asked c.in-Err.reply c.args.monitor.now.failed c.in-Err.ensures.only c.in-Err.ensures.failed.0);
  done = (
    refl {a = beside (g.H.HostFiles.acts c.args.host.now) c.args.monitor.now},
    refused_as _ _ _ _ _ _ _ _ _ refl c.refusal-text.ensures
        c.is_broken-broke.ensures c.turn_down.ensures,
  );
}

pub returns-in-Err-clause-goes : goal.returns-in-Err-clause-goes
returns-in-Err-clause-goes g c = exports_go (λ m. machine_of (g.D.Disk.state m.disk) m.map m.failed m.jobs)
    (monitors_stand g.D.Disk.state) c.args.task.now
    (g.W.Write.contents c.args.writer.now) (g.W.Write.contents c.turn_down.new.writer)
    (beside (g.H.HostFiles.acts c.args.host.now) c.args.monitor.now)
    (beside (g.H.HostFiles.acts c.args.host.now) c.args.monitor.now) c.turn_down.result (returns-in-Err-clause-done g c)
