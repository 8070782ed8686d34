use Rattle.std.proofs.Common.{refl}
use Rattle.blockdisk.specs.Common.{keeps_still}
use Rattle.spec_image.specs.Common.{layout_number}
use Rattle.volume.specs.Common.{file_view}
use Rattle.salvage.specs.declared.saved.SavedFile.{SavedFile}
use Rattle.salvage.proofs.OwnedFiles.{file_kept_on}
use Rattle.salvage.proofs.ReadSteps.{file_told_on}
use Rattle.salvage.proofs.Refusals.{file_refused, file_unread}
use Rattle.salvage.proofs.tree.add_file.Goals as goal

pub returns-in-Ok-clause-read : goal.returns-in-Ok-clause-read
returns-in-Ok-clause-read g c h held directories names named new_directory new_name r =
    let s = g.D.Disk.state c.args.disk.now in
    let f : SavedFile = record { at = c.args.entry.now.prime; stored = c.in-Ok.stored } in
    file_kept_on s.size (layout_number c.args.layout) s.contents directories c.args.ppn names
    c.args.reading.now.files.items c.args.reading.now.findings.items (file_view c.args.entry.now) f
    c.args.reading.now.owners r new_directory new_name named c.requires.inside (c.in-Ok.ensures.ok h) refl
    c.in-Ok.ensures.ppn c.in-Ok.ensures.name c.keep_file.new.reading.files.items
    c.keep_file.new.reading.findings.items c.keep_file.result held c.keep_file.ensures.kept

pub returns-in-Ok-clause-reads : goal.returns-in-Ok-clause-reads
returns-in-Ok-clause-reads g c h =
    let keeps = c.read_named.ensures.disk.keeps h in
    record {
      still = keeps_still (g.D.Disk.state c.args.disk.now) (g.D.Disk.state c.read_named.new.disk) keeps;
      is_open = keeps.is_open;
    }

pub returns-in-Err-clause-read : goal.returns-in-Err-clause-read
returns-in-Err-clause-read g c h held directories names named new_directory new_name r =
    let s = g.D.Disk.state c.args.disk.now in
    let e = c.args.entry.now in
    file_told_on s.size (layout_number c.args.layout) s.contents directories c.args.ppn names
    c.args.reading.now.files.items c.args.reading.now.findings.items c.report_refusal.new.findings.items (file_view e)
    c.in-Err.refusal c.report_refusal.result r
    (file_refused s.size (layout_number c.args.layout) s.contents c.args.ppn e.name e.prime c.read_named.result
    c.in-Err.refusal c.in-Err.is c.requires.inside named c.read_named.ensures.only (c.read_named.ensures.bad_version h)
    c.read_named.ensures.named)
    (file_unread c.read_named.result c.in-Err.refusal c.in-Err.is c.read_named.ensures.only)
    c.report_refusal.ensures.told c.report_refusal.ensures.fault
