use Rattle.std.proofs.Common.{false, true, Ok, Err, subst}
use Rattle.std.proofs.lemmas.Result.{err_from_is_err_and}
use Rattle.collection.specs.Common.{AreApartSaved, AreFilesSaved, AreFindingsDone, Then, doubtful_folder}
use Rattle.collection.specs.Common.{unnamed_folder}
use Rattle.collection.proofs.EachLaws.{beside, both_done, first_cut, second_cut}
use Rattle.collection.proofs.SaveLaws.{all_fit, saved_size}
use Rattle.collection.proofs.save_files.save_found.Goals as goal

pub save_apart-requires-clause-fit : goal.save_apart-requires-clause-fit
save_apart-requires-clause-fit g c = all_fit _ _ c.args.found.now.doubtful.items
    (saved_size g.D.Disk.state c.args.task.now c.args.task.now.folder.now false
    c.as_slice-files.result.now (g.W.Write.contents c.args.writer.now) (g.W.Write.contents c.save_files.new.writer)
    (beside (g.H.HostFiles.acts c.args.host.now) c.args.disk.now)
    (beside (g.H.HostFiles.acts c.save_files.new.host) c.save_files.new.disk) c.save_files.result c.save_files.ensures)
    c.requires.fit_doubtful

pub save_apart-requires-clause-fit_unnamed : goal.save_apart-requires-clause-fit_unnamed
save_apart-requires-clause-fit_unnamed g c = all_fit _ _ c.args.found.now.unnamed.items
    (saved_size g.D.Disk.state c.args.task.now c.args.task.now.folder.now false
    c.as_slice-files.result.now (g.W.Write.contents c.args.writer.now) (g.W.Write.contents c.save_files.new.writer)
    (beside (g.H.HostFiles.acts c.args.host.now) c.args.disk.now)
    (beside (g.H.HostFiles.acts c.save_files.new.host) c.save_files.new.disk) c.save_files.result c.save_files.ensures)
    c.requires.fit_unnamed

pub returns-in_err-saved : goal.returns-in_err-saved
returns-in_err-saved g c =
    let task = c.args.task.now in
    let found = c.args.found.now in
    let first = beside (g.H.HostFiles.acts c.args.host.now) c.args.disk.now in
    let mid = beside (g.H.HostFiles.acts c.save_files.new.host) c.save_files.new.disk in
    let e = err_from_is_err_and c.from_residual.result c.from_residual.ensures.1 in
    rw (e.1, e.2) (first_cut (AreFilesSaved g.D.Disk.state task task.folder.now false found.files.items)
    (Then (AreApartSaved g.D.Disk.state task (doubtful_folder task.folder.now) false found.doubtful.items)
    (Then (AreApartSaved g.D.Disk.state task (unnamed_folder task.folder.now) true found.unnamed.items)
    (AreFindingsDone task found.findings.items)))
    (g.W.Write.contents c.args.writer.now) (g.W.Write.contents c.save_files.new.writer) first mid
    c.in_err-saved.field-0.0
    (subst (λ files. AreFilesSaved g.D.Disk.state task task.folder.now false files
    (g.W.Write.contents c.args.writer.now) (g.W.Write.contents c.save_files.new.writer) first mid
    (Err c.in_err-saved.field-0.0)) c.as_slice-files.ensures.value c.in_err-saved.ensures))

pub returns-in_err-others : goal.returns-in_err-others
returns-in_err-others g c =
    let task = c.args.task.now in
    let found = c.args.found.now in
    let e = err_from_is_err_and c.from_residual-in_err-others.result c.from_residual-in_err-others.ensures.1 in
    rw (e.1, e.2) (second_cut (AreFilesSaved g.D.Disk.state task task.folder.now false found.files.items)
    (Then (AreApartSaved g.D.Disk.state task (doubtful_folder task.folder.now) false found.doubtful.items)
    (Then (AreApartSaved g.D.Disk.state task (unnamed_folder task.folder.now) true found.unnamed.items)
    (AreFindingsDone task found.findings.items)))
    (g.W.Write.contents c.args.writer.now) (g.W.Write.contents c.save_files.new.writer)
    (g.W.Write.contents c.save_apart.new.writer) (beside (g.H.HostFiles.acts c.args.host.now) c.args.disk.now)
    (beside (g.H.HostFiles.acts c.save_files.new.host) c.save_files.new.disk)
    (beside (g.H.HostFiles.acts c.save_apart.new.host) c.save_apart.new.disk)
    c.in_ok-saved.saved
    (subst (λ files. AreFilesSaved g.D.Disk.state task task.folder.now false files
    (g.W.Write.contents c.args.writer.now) (g.W.Write.contents c.save_files.new.writer)
    (beside (g.H.HostFiles.acts c.args.host.now) c.args.disk.now)
    (beside (g.H.HostFiles.acts c.save_files.new.host) c.save_files.new.disk) (Ok c.in_ok-saved.saved))
    c.as_slice-files.ensures.value c.in_ok-saved.ensures)
    c.in_err-others.field-0.0 c.in_err-others.ensures)

pub returns : goal.returns
returns g c =
    let task = c.args.task.now in
    let found = c.args.found.now in
    both_done (AreFilesSaved g.D.Disk.state task task.folder.now false found.files.items)
    (Then (AreApartSaved g.D.Disk.state task (doubtful_folder task.folder.now) false found.doubtful.items)
    (Then (AreApartSaved g.D.Disk.state task (unnamed_folder task.folder.now) true found.unnamed.items)
    (AreFindingsDone task found.findings.items)))
    (g.W.Write.contents c.args.writer.now) (g.W.Write.contents c.save_files.new.writer)
    (g.W.Write.contents c.save_apart.new.writer) (beside (g.H.HostFiles.acts c.args.host.now) c.args.disk.now)
    (beside (g.H.HostFiles.acts c.save_files.new.host) c.save_files.new.disk)
    (beside (g.H.HostFiles.acts c.save_apart.new.host) c.save_apart.new.disk)
    c.in_ok-saved.saved
    (subst (λ files. AreFilesSaved g.D.Disk.state task task.folder.now false files
    (g.W.Write.contents c.args.writer.now) (g.W.Write.contents c.save_files.new.writer)
    (beside (g.H.HostFiles.acts c.args.host.now) c.args.disk.now)
    (beside (g.H.HostFiles.acts c.save_files.new.host) c.save_files.new.disk) (Ok c.in_ok-saved.saved))
    c.as_slice-files.ensures.value c.in_ok-saved.ensures)
    c.in_ok-others.others c.added.result c.added.ensures
    c.in_ok-others.ensures
