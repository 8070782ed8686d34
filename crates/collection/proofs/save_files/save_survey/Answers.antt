use Rattle.std.proofs.Common.{false, true, refl}
use Rattle.std.proofs.lemmas.Result.{err_from_is_err_and}
use Rattle.blockdisk.specs.Common.{memory_state}
use Rattle.collection.specs.Common.{AreApartSaved, AreFilesSaved, AreFindingsDone, Then, doubtful_folder}
use Rattle.collection.specs.Common.{unnamed_folder}
use Rattle.collection.proofs.EachLaws.{beside, both_done, second_cut}
use Rattle.collection.proofs.save_files.save_survey.Goals as goal

pub returns-in_err-rest : goal.returns-in_err-rest
returns-in_err-rest g c =
    let task = c.args.task.now in
    let found = c.args.found.now in
    let copied = c.args.copied.now in
    let e = err_from_is_err_and c.from_residual-in_err-rest.result c.from_residual-in_err-rest.ensures.1 in
    rw (e.1, e.2) (second_cut (AreFindingsDone task copied.findings.items)
    (Then (AreFilesSaved memory_state task task.folder.now false found.files.items)
    (Then (AreApartSaved memory_state task (doubtful_folder task.folder.now) false found.doubtful.items)
    (Then (AreApartSaved memory_state task (unnamed_folder task.folder.now) true found.unnamed.items)
    (AreFindingsDone task found.findings.items))))
    (g.W.Write.contents c.args.writer.now) (g.W.Write.contents c.report_copy.new.writer)
    (g.W.Write.contents c.save_found.new.writer) (beside (g.H.HostFiles.acts c.args.host.now) copied.disk)
    (beside (g.H.HostFiles.acts c.args.host.now) copied.disk)
    (beside (g.H.HostFiles.acts c.save_found.new.host) c.save_found.new.disk)
    c.in_ok-first.first (refl, c.in_ok-first.ensures) c.in_err-rest.field-0.0 c.in_err-rest.ensures)

pub returns : goal.returns
returns g c =
    let task = c.args.task.now in
    let found = c.args.found.now in
    let copied = c.args.copied.now in
    both_done (AreFindingsDone task copied.findings.items)
    (Then (AreFilesSaved memory_state task task.folder.now false found.files.items)
    (Then (AreApartSaved memory_state task (doubtful_folder task.folder.now) false found.doubtful.items)
    (Then (AreApartSaved memory_state task (unnamed_folder task.folder.now) true found.unnamed.items)
    (AreFindingsDone task found.findings.items))))
    (g.W.Write.contents c.args.writer.now) (g.W.Write.contents c.report_copy.new.writer)
    (g.W.Write.contents c.save_found.new.writer) (beside (g.H.HostFiles.acts c.args.host.now) copied.disk)
    (beside (g.H.HostFiles.acts c.args.host.now) copied.disk)
    (beside (g.H.HostFiles.acts c.save_found.new.host) c.save_found.new.disk)
    c.in_ok-first.first (refl, c.in_ok-first.ensures) c.in_ok-rest.rest c.added.result c.added.ensures
    c.in_ok-rest.ensures
