use Rattle.std.proofs.Common.{arith, sym, subst, ◌+◌}
use Rattle.std.proofs.lemmas.Result.{err_from_is_err_and}
use Rattle.commands.specs.Common.{machine_of}
use Rattle.collection.specs.Common.{IsEntryDone}
use Rattle.collection.proofs.EachLaws.{beside, Done, done_none, done_more, done_cut, done_all}
use Rattle.collection.proofs.exports.export_entries.Goals as goal

pub loop-entry-init : goal.loop-entry-init
loop-entry-init g c =
    subst (λ t. Done (IsEntryDone (λ m. machine_of (g.D.Disk.state m.disk) m.map m.failed m.jobs)
    c.args.directory.now.task.now c.args.directory.now.owner)
    c.args.entries.now (g.W.Write.contents c.args.writer.now)
    (beside (g.H.HostFiles.acts c.args.host.now) c.args.monitor.now) 0 t
    (g.W.Write.contents c.args.writer.now)
    (beside (g.H.HostFiles.acts c.args.host.now) c.args.monitor.now)) (sym c.none-tally.ensures)
    (done_none (IsEntryDone (λ m. machine_of (g.D.Disk.state m.disk) m.map m.failed m.jobs)
    c.args.directory.now.task.now c.args.directory.now.owner)
    c.args.entries.now (g.W.Write.contents c.args.writer.now)
    (beside (g.H.HostFiles.acts c.args.host.now) c.args.monitor.now))

pub loop-entry-preserved : goal.loop-entry-preserved
loop-entry-preserved g c =
    subst (λ t. Done (IsEntryDone (λ m. machine_of (g.D.Disk.state m.disk) m.map m.failed m.jobs)
    c.args.directory.now.task.now c.args.directory.now.owner)
    c.args.entries.now (g.W.Write.contents c.args.writer.now)
    (beside (g.H.HostFiles.acts c.args.host.now) c.args.monitor.now) (c.loop-entry.entry-index + 1) t
    (g.W.Write.contents c.export_one.new.writer) (beside (g.H.HostFiles.acts c.export_one.new.host)
    c.export_one.new.monitor)) (sym c.added-tally.ensures)
    (done_more (IsEntryDone (λ m. machine_of (g.D.Disk.state m.disk) m.map m.failed m.jobs)
    c.args.directory.now.task.now c.args.directory.now.owner)
    c.args.entries.now (g.W.Write.contents c.args.writer.now)
    (beside (g.H.HostFiles.acts c.args.host.now) c.args.monitor.now) c.loop-entry.entry-index
    c.loop-entry.tally _ _
    (beside (g.H.HostFiles.acts c.loop-entry.host) c.loop-entry.monitor) _ c.entry-item.result c.loop-entry-test.true
    c.entry-item.is c.loop-entry.invariant
    c.in_ok-one.one
    c.in_ok-one.ensures)

pub returns-in_err-one : goal.returns-in_err-one
returns-in_err-one g c =
    let p = err_from_is_err_and c.from_residual.result c.from_residual.ensures.1 in
    rw (p.1, p.2) (done_cut
    (IsEntryDone (λ m. machine_of (g.D.Disk.state m.disk) m.map m.failed m.jobs)
    c.args.directory.now.task.now c.args.directory.now.owner)
    c.args.entries.now (g.W.Write.contents c.args.writer.now)
    (beside (g.H.HostFiles.acts c.args.host.now) c.args.monitor.now) c.loop-entry.entry-index
    c.loop-entry.tally _ _
    (beside (g.H.HostFiles.acts c.loop-entry.host) c.loop-entry.monitor) _ c.entry-item.result c.loop-entry-test.true
    c.entry-item.is c.loop-entry.invariant
    c.in_err-one.field-0.0
    c.in_err-one.ensures)

pub returns : goal.returns
returns g c = done_all
    (IsEntryDone (λ m. machine_of (g.D.Disk.state m.disk) m.map m.failed m.jobs)
    c.args.directory.now.task.now c.args.directory.now.owner)
    c.args.entries.now (g.W.Write.contents c.args.writer.now)
    (beside (g.H.HostFiles.acts c.args.host.now) c.args.monitor.now) c.loop-entry.entry-index
    c.loop-entry.tally _
    (beside (g.H.HostFiles.acts c.loop-entry.host) c.loop-entry.monitor) (omega arith) c.loop-entry.invariant
