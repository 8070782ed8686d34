use Rattle.std.proofs.Common.{true, refl, Ok, Err, subst}
use Rattle.std.proofs.lemmas.Result.{err_from_is_err_and}
use Rattle.collection.specs.Common.{AreApartSaved, AreFindingsDone, EachDone, IsKindDone, kinds, none_counted}
use Rattle.collection.specs.Common.{unnamed_folder}
use Rattle.collection.proofs.EachLaws.{beside, both_done, first_cut, second_cut}
use Rattle.collection.proofs.save_files.save_last.Goals as goal

pub returns-in_err-saved : goal.returns-in_err-saved
returns-in_err-saved g c =
    let task = c.args.task.now in
    let found = c.args.found.now in
    let first = beside (g.H.HostFiles.acts c.args.host.now) c.args.disk.now in
    let mid = beside (g.H.HostFiles.acts c.save_unnamed.new.host) c.save_unnamed.new.disk in
    let e = err_from_is_err_and c.from_residual.result c.from_residual.ensures.1 in
    rw (e.1, e.2) (first_cut
    (AreApartSaved g.D.Disk.state task (unnamed_folder task.folder.now) true found.unnamed.items)
    (AreFindingsDone task found.findings.items) (g.W.Write.contents c.args.writer.now)
    (g.W.Write.contents c.save_unnamed.new.writer) first mid c.in_err-saved.field-0.0
    (subst (λ files. AreApartSaved g.D.Disk.state task (unnamed_folder task.folder.now) true files
    (g.W.Write.contents c.args.writer.now) (g.W.Write.contents c.save_unnamed.new.writer) first mid
    (Err c.in_err-saved.field-0.0)) c.as_slice-files.ensures.value c.in_err-saved.ensures))

pub returns-in_err-told : goal.returns-in_err-told
returns-in_err-told g c =
    let task = c.args.task.now in
    let found = c.args.found.now in
    let first = beside (g.H.HostFiles.acts c.args.host.now) c.args.disk.now in
    let mid = beside (g.H.HostFiles.acts c.save_unnamed.new.host) c.save_unnamed.new.disk in
    let e = err_from_is_err_and c.from_residual-in_err-told.result c.from_residual-in_err-told.ensures.1 in
    rw (e.1, e.2) (second_cut
    (AreApartSaved g.D.Disk.state task (unnamed_folder task.folder.now) true found.unnamed.items)
    (AreFindingsDone task found.findings.items) (g.W.Write.contents c.args.writer.now)
    (g.W.Write.contents c.save_unnamed.new.writer) (g.W.Write.contents c.report_findings.new.writer) first mid mid
    c.in_ok-saved.saved
    (subst (λ files. AreApartSaved g.D.Disk.state task (unnamed_folder task.folder.now) true files
    (g.W.Write.contents c.args.writer.now) (g.W.Write.contents c.save_unnamed.new.writer) first mid
    (Ok c.in_ok-saved.saved)) c.as_slice-files.ensures.value c.in_ok-saved.ensures) c.in_err-told.field-0.0 (
      refl,
      subst (λ findings. EachDone (IsKindDone task findings) kinds none_counted
          (g.W.Write.contents c.save_unnamed.new.writer) (g.W.Write.contents c.report_findings.new.writer) tt tt
          (Err c.in_err-told.field-0.0)) c.as_slice.ensures.value c.in_err-told.ensures,
    ))

pub returns : goal.returns
returns g c =
    let task = c.args.task.now in
    let found = c.args.found.now in
    let first = beside (g.H.HostFiles.acts c.args.host.now) c.args.disk.now in
    let mid = beside (g.H.HostFiles.acts c.save_unnamed.new.host) c.save_unnamed.new.disk in
    both_done (AreApartSaved g.D.Disk.state task (unnamed_folder task.folder.now) true found.unnamed.items)
    (AreFindingsDone task found.findings.items) (g.W.Write.contents c.args.writer.now)
    (g.W.Write.contents c.save_unnamed.new.writer) (g.W.Write.contents c.report_findings.new.writer) first mid mid
    c.in_ok-saved.saved
    (subst (λ files. AreApartSaved g.D.Disk.state task (unnamed_folder task.folder.now) true files
    (g.W.Write.contents c.args.writer.now) (g.W.Write.contents c.save_unnamed.new.writer) first mid
    (Ok c.in_ok-saved.saved)) c.as_slice-files.ensures.value c.in_ok-saved.ensures) c.in_ok-told.told c.added.result
    c.added.ensures (
      refl,
      subst (λ findings. EachDone (IsKindDone task findings) kinds none_counted
          (g.W.Write.contents c.save_unnamed.new.writer) (g.W.Write.contents c.report_findings.new.writer) tt tt
          (Ok c.in_ok-told.told)) c.as_slice.ensures.value c.in_ok-told.ensures,
    )
