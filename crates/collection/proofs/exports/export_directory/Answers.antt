use Rattle.std.proofs.Common.{Ok, Err, inl, refl, subst, ◌∙◌}
use Rattle.commands.specs.Common.{machine_of}
use Rattle.collection.specs.Common.{AreEntriesDone}
use Rattle.collection.proofs.EachLaws.{beside}
use Rattle.collection.proofs.MovedParts.{entries_as, no_entries, refused_as}
use Rattle.collection.proofs.exports.export_directory.Goals as goal

pub returns-in-Ok-entries : goal.returns-in-Ok-entries
returns-in-Ok-entries g c = inl (record {
  at = c.first_moment.result;
  first = c.first_moment.ensures;
  mid = c.entries.new.monitor;
  entries = Ok c.in-Ok-entries.entries.items;
  asked = entries_as (λ v. v.items) (λ m. machine_of (g.D.Disk.state m.disk) m.map m.failed m.jobs) c.args.monitor.now
      c.entries.new.monitor c.first_moment.result c.args.directory.now.owner c.in-Ok-entries.entries
      c.in-Ok-entries.ensures;
  done = subst (λ es. AreEntriesDone (λ m. machine_of (g.D.Disk.state m.disk) m.map m.failed m.jobs)
      c.args.directory.now.task.now c.args.directory.now.owner es (g.W.Write.contents c.args.writer.now)
      (g.W.Write.contents c.fill_folder.new.writer) (beside (g.H.HostFiles.acts c.args.host.now) c.entries.new.monitor)
      (beside (g.H.HostFiles.acts c.fill_folder.new.host) c.fill_folder.new.monitor) c.fill_folder.result)
      c.as_slice.ensures.value c.fill_folder.ensures;
})

pub returns : goal.returns
returns g c = inl (record {
  at = c.first_moment.result;
  first = c.first_moment.ensures;
  mid = c.entries.new.monitor;
  entries = Err c.in-Err.reply;
  asked = no_entries (λ v. v.items) (λ m. machine_of (g.D.Disk.state m.disk) m.map m.failed m.jobs) c.args.monitor.now
      c.entries.new.monitor c.first_moment.result c.args.directory.now.owner c.in-Err.reply c.in-Err.ensures;
  done = (
    refl {a = beside (g.H.HostFiles.acts c.args.host.now) c.entries.new.monitor},
    refused_as _ _ _ _ _ _ _ _ _
        (c.as_str-folder.ensures.value ∙ c.in-Ok.ensures) c.refusal.ensures c.is_broken.ensures c.turn_down.ensures,
  );
})
