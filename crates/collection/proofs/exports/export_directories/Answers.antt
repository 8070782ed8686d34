use Rattle.std.proofs.Common.{arith, sym, subst, ◌+◌}
use Rattle.std.proofs.lemmas.Result.{err_from_is_err_and}
use Rattle.commands.specs.Common.{machine_of}
use Rattle.collection.specs.Common.{IsOwnerDone}
use Rattle.collection.proofs.EachLaws.{beside, Done, done_none, done_more, done_cut, done_all}
use Rattle.collection.proofs.exports.export_directories.Goals as goal

pub loop-owner-init : goal.loop-owner-init
loop-owner-init g c =
    subst (λ t. Done (IsOwnerDone (λ m. machine_of (g.D.Disk.state m.disk) m.map m.failed m.jobs) c.args.task.now)
    c.args.owners.now (g.W.Write.contents c.args.writer.now) (beside (g.H.HostFiles.acts c.args.host.now)
    c.args.monitor.now) 0 t
    (g.W.Write.contents c.args.writer.now)
    (beside (g.H.HostFiles.acts c.args.host.now) c.args.monitor.now)) (sym c.none-tally.ensures)
    (done_none (IsOwnerDone (λ m. machine_of (g.D.Disk.state m.disk) m.map m.failed m.jobs) c.args.task.now)
    c.args.owners.now (g.W.Write.contents c.args.writer.now) (beside (g.H.HostFiles.acts c.args.host.now)
    c.args.monitor.now))

pub loop-owner-preserved : goal.loop-owner-preserved
loop-owner-preserved g c =
    subst (λ t. Done (IsOwnerDone (λ m. machine_of (g.D.Disk.state m.disk) m.map m.failed m.jobs) c.args.task.now)
    c.args.owners.now (g.W.Write.contents c.args.writer.now) (beside (g.H.HostFiles.acts c.args.host.now)
    c.args.monitor.now) (c.loop-owner.owner-index + 1) t
    (g.W.Write.contents c.export_directory.new.writer) (beside (g.H.HostFiles.acts c.export_directory.new.host)
    c.export_directory.new.monitor)) (sym c.added-tally.ensures)
    (done_more (IsOwnerDone (λ m. machine_of (g.D.Disk.state m.disk) m.map m.failed m.jobs) c.args.task.now)
    c.args.owners.now (g.W.Write.contents c.args.writer.now) (beside (g.H.HostFiles.acts c.args.host.now)
    c.args.monitor.now) c.loop-owner.owner-index
    c.loop-owner.tally _ _
    (beside (g.H.HostFiles.acts c.loop-owner.host) c.loop-owner.monitor) _ c.owner-item.result c.loop-owner-test.true
    c.owner-item.is c.loop-owner.invariant
    c.in_ok-one.one
    c.in_ok-one.ensures)

pub returns-in_err-one : goal.returns-in_err-one
returns-in_err-one g c =
    let p = err_from_is_err_and c.from_residual.result c.from_residual.ensures.1 in
    rw (p.1, p.2) (done_cut
    (IsOwnerDone (λ m. machine_of (g.D.Disk.state m.disk) m.map m.failed m.jobs) c.args.task.now)
    c.args.owners.now (g.W.Write.contents c.args.writer.now) (beside (g.H.HostFiles.acts c.args.host.now)
    c.args.monitor.now) c.loop-owner.owner-index
    c.loop-owner.tally _ _
    (beside (g.H.HostFiles.acts c.loop-owner.host) c.loop-owner.monitor) _ c.owner-item.result c.loop-owner-test.true
    c.owner-item.is c.loop-owner.invariant
    c.in_err-one.field-0.0
    c.in_err-one.ensures)

pub returns : goal.returns
returns g c = done_all
    (IsOwnerDone (λ m. machine_of (g.D.Disk.state m.disk) m.map m.failed m.jobs)
    c.args.task.now)
    c.args.owners.now (g.W.Write.contents c.args.writer.now) (beside (g.H.HostFiles.acts c.args.host.now)
    c.args.monitor.now) c.loop-owner.owner-index
    c.loop-owner.tally _
    (beside (g.H.HostFiles.acts c.loop-owner.host) c.loop-owner.monitor) (omega arith) c.loop-owner.invariant
