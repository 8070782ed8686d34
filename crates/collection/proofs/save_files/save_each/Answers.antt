use Rattle.std.proofs.Common.{arith, refl, sym, subst, ◌+◌, ◌∙◌}
use Rattle.std.proofs.lemmas.Result.{err_from_is_err_and}
use Rattle.collection.specs.Common.{IsFileDone}
use Rattle.collection.proofs.EachLaws.{beside, Done, done_none, done_more, done_cut, done_all}
use Rattle.collection.proofs.SaveLaws.{all_fit, fits_at, size_stays}
use Rattle.collection.proofs.save_files.save_each.Goals as goal

pub loop-file-init : goal.loop-file-init
loop-file-init g c = (
  subst (λ t. Done (IsFileDone g.D.Disk.state c.args.target.now.task.now
      c.args.target.now.folder.now c.args.target.now.numbered) c.args.files.now
      (g.W.Write.contents c.args.writer.now) (beside (g.H.HostFiles.acts c.args.host.now) c.args.disk.now) 0 t
      (g.W.Write.contents c.args.writer.now)
      (beside (g.H.HostFiles.acts c.args.host.now) c.args.disk.now)) (sym c.none-tally.ensures)
      (done_none (IsFileDone g.D.Disk.state c.args.target.now.task.now
      c.args.target.now.folder.now c.args.target.now.numbered) c.args.files.now
      (g.W.Write.contents c.args.writer.now) (beside (g.H.HostFiles.acts c.args.host.now) c.args.disk.now)),
  refl,
)

pub save_one-requires : goal.save_one-requires
save_one-requires g c = fits_at (g.D.Disk.state c.loop-file.disk).size c.args.files.now
    c.loop-file.file-index c.file-item.result c.loop-file-test.true c.file-item.is
    (all_fit _ _ c.args.files.now c.loop-file.invariant.1 c.requires)

pub loop-file-preserved : goal.loop-file-preserved
loop-file-preserved g c = (
  subst (λ t. Done (IsFileDone g.D.Disk.state c.args.target.now.task.now
      c.args.target.now.folder.now c.args.target.now.numbered) c.args.files.now
      (g.W.Write.contents c.args.writer.now) (beside (g.H.HostFiles.acts c.args.host.now) c.args.disk.now)
      (c.loop-file.file-index + 1) t
      (g.W.Write.contents c.save_one.new.writer) (beside (g.H.HostFiles.acts c.save_one.new.host) c.save_one.new.disk))
      (sym c.added-tally.ensures)
      (done_more (IsFileDone g.D.Disk.state c.args.target.now.task.now
      c.args.target.now.folder.now c.args.target.now.numbered) c.args.files.now
      (g.W.Write.contents c.args.writer.now) (beside (g.H.HostFiles.acts c.args.host.now) c.args.disk.now)
      c.loop-file.file-index c.loop-file.tally _ _
      (beside (g.H.HostFiles.acts c.loop-file.host) c.loop-file.disk) _ c.file-item.result c.loop-file-test.true
      c.file-item.is c.loop-file.invariant.0
      c.in_ok-one.one c.in_ok-one.ensures),
  size_stays g.D.Disk.state c.args.target.now.task.now
      c.args.target.now.folder.now c.args.target.now.numbered _ _ _ _ _ _ c.save_one.ensures ∙ c.loop-file.invariant.1,
)

pub returns-in_err-one : goal.returns-in_err-one
returns-in_err-one g c =
    let p = err_from_is_err_and c.from_residual.result c.from_residual.ensures.1 in
    rw (p.1, p.2) (done_cut (IsFileDone g.D.Disk.state c.args.target.now.task.now
    c.args.target.now.folder.now c.args.target.now.numbered)
    c.args.files.now (g.W.Write.contents c.args.writer.now) (beside (g.H.HostFiles.acts c.args.host.now)
    c.args.disk.now) c.loop-file.file-index c.loop-file.tally _ _
    (beside (g.H.HostFiles.acts c.loop-file.host) c.loop-file.disk) _ c.file-item.result c.loop-file-test.true
    c.file-item.is c.loop-file.invariant.0
    c.in_err-one.field-0.0 c.in_err-one.ensures)

pub returns : goal.returns
returns g c = done_all (IsFileDone g.D.Disk.state c.args.target.now.task.now
    c.args.target.now.folder.now c.args.target.now.numbered)
    c.args.files.now (g.W.Write.contents c.args.writer.now) (beside (g.H.HostFiles.acts c.args.host.now)
    c.args.disk.now) c.loop-file.file-index c.loop-file.tally _
    (beside (g.H.HostFiles.acts c.loop-file.host) c.loop-file.disk) (omega arith) c.loop-file.invariant.0
