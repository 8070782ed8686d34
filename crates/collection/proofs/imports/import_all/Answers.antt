use Rattle.std.proofs.Common.{map, rules, sym, subst, ◌+◌}
use Rattle.std.proofs.lemmas.Result.{err_from_is_err_and}
use Rattle.commands.specs.Common.{machine_of}
use Rattle.collection.specs.Common.{IsDoneWith}
use Rattle.collection.proofs.EachLaws.{beside, Done, done_none, done_more, done_cut, done_all, past_map}
use Rattle.directory.proofs.KeyPlaces.{seen_inside}
use Rattle.collection.proofs.imports.import_all.Goals as goal

pub loop-place-init : goal.loop-place-init
loop-place-init g c =
    subst (λ t. Done (IsDoneWith (λ m. machine_of (g.D.Disk.state m.disk) m.map m.failed m.jobs)
    c.args.task.now)
    (map (λ p. p.now) c.args.task.now.paths.items) (g.W.Write.contents c.args.writer.now)
    (beside (g.H.HostFiles.acts c.args.host.now) c.args.monitor.now) 0 t
    (g.W.Write.contents c.args.writer.now) (beside (g.H.HostFiles.acts c.args.host.now) c.args.monitor.now))
    (sym c.none-tally.ensures)
    (done_none (IsDoneWith (λ m. machine_of (g.D.Disk.state m.disk) m.map m.failed m.jobs)
    c.args.task.now)
    (map (λ p. p.now) c.args.task.now.paths.items) (g.W.Write.contents c.args.writer.now)
    (beside (g.H.HostFiles.acts c.args.host.now) c.args.monitor.now))

pub loop-place-preserved : goal.loop-place-preserved
loop-place-preserved g c =
    subst (λ t. Done (IsDoneWith (λ m. machine_of (g.D.Disk.state m.disk) m.map m.failed m.jobs)
    c.args.task.now)
    (map (λ p. p.now) c.args.task.now.paths.items) (g.W.Write.contents c.args.writer.now)
    (beside (g.H.HostFiles.acts c.args.host.now) c.args.monitor.now)
    (c.loop-place.place + 1) t
    (g.W.Write.contents c.import_one.new.writer) (beside (g.H.HostFiles.acts c.import_one.new.host)
    c.import_one.new.monitor)) (sym c.added-tally.ensures)
    (done_more (IsDoneWith (λ m. machine_of (g.D.Disk.state m.disk) m.map m.failed m.jobs)
    c.args.task.now)
    (map (λ p. p.now) c.args.task.now.paths.items) (g.W.Write.contents c.args.writer.now)
    (beside (g.H.HostFiles.acts c.args.host.now) c.args.monitor.now)
    c.loop-place.place c.loop-place.tally _ _ (beside (g.H.HostFiles.acts c.loop-place.host) c.loop-place.monitor) _
    c.path_at-path.result.now
    (seen_inside (λ p. p.now) c.args.task.now.paths.items c.loop-place.place (search rules))
    (c.path_at-path.ensures c.path_at-path.result.now) c.loop-place.invariant c.in_ok-one.one c.in_ok-one.ensures)

pub returns-in_err-one : goal.returns-in_err-one
returns-in_err-one g c =
    let p = err_from_is_err_and c.from_residual.result c.from_residual.ensures.1 in
    rw (p.1, p.2) (done_cut
    (IsDoneWith (λ m. machine_of (g.D.Disk.state m.disk) m.map m.failed m.jobs)
    c.args.task.now)
    (map (λ p. p.now) c.args.task.now.paths.items) (g.W.Write.contents c.args.writer.now)
    (beside (g.H.HostFiles.acts c.args.host.now) c.args.monitor.now)
    c.loop-place.place c.loop-place.tally _ _ (beside (g.H.HostFiles.acts c.loop-place.host) c.loop-place.monitor) _
    c.path_at-path.result.now
    (seen_inside (λ p. p.now) c.args.task.now.paths.items c.loop-place.place (search rules))
    (c.path_at-path.ensures c.path_at-path.result.now) c.loop-place.invariant c.in_err-one.field-0.0
    c.in_err-one.ensures)

pub returns : goal.returns
returns g c = done_all
    (IsDoneWith (λ m. machine_of (g.D.Disk.state m.disk) m.map m.failed m.jobs)
    c.args.task.now)
    (map (λ p. p.now) c.args.task.now.paths.items) (g.W.Write.contents c.args.writer.now)
    (beside (g.H.HostFiles.acts c.args.host.now) c.args.monitor.now)
    c.loop-place.place c.loop-place.tally _ (beside (g.H.HostFiles.acts c.loop-place.host) c.loop-place.monitor)
    (past_map (λ p. p.now) c.args.task.now.paths.items c.loop-place.place (search rules)) c.loop-place.invariant
