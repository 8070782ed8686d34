use Rattle.std.proofs.Common.{◌≡◌, ◌++◌, ◌∷◌, [], refl}
use Rattle.blockdisk.specs.Common.{same_contents}
use Rattle.spec_image.specs.Common.{layout_number}
use Rattle.changeset.proofs.LogRead.{only_reads_on}
use Rattle.volume.proofs.common.MarkedBlocks.{on_ok}
use Rattle.volume.proofs.VolumeStart.Opens.{reads_of}
use Rattle.volume.specs.declared.error.VolumeError.TheVariants.{BadRetrieval}
use Rattle.salvage.specs.Common.{IsReadAt}
use Rattle.salvage.specs.declared.finding.Defect.TheVariants.{Start}
use Rattle.salvage.specs.declared.saved.SavedFile.{SavedFile}
use Rattle.salvage.proofs.PrimesRead.{file_here, told_along}
use Rattle.salvage.proofs.scan.read_at.Goals as goal

pub returns-in-Ok-clause-found : goal.returns-in-Ok-clause-found
returns-in-Ok-clause-found g c h =
    let s = g.D.Disk.state c.args.disk.now in
    let layout = layout_number c.args.layout in
    let old = c.args.files.now.items in
    let new = c.push_file.new.files.items in
    let told = c.args.findings.now.items in
    let file : SavedFile = record {
      at = c.args.n;
      stored = record { prime = c.in-Ok.prime; version = c.in-Ok.version };
    } in
    on_ok c.push_file.result (new ≡ old ++ file ∷ [])
    (IsReadAt s.size layout s.contents c.args.n old new told told)
    (λ pushed. file_here s.size layout s.contents c.args.n old new told file pushed refl (c.in-Ok.ensures.ok h))
    c.push_file.ensures.pushed

pub returns-in-Ok-clause-reads : goal.returns-in-Ok-clause-reads
returns-in-Ok-clause-reads g c h =
    reads_of (g.D.Disk.state c.args.disk.now) (g.D.Disk.state c.read_version.new.disk) (c.read_version.ensures.keeps h)

pub returns-in-Err-BadRetrieval-clause-found : goal.returns-in-Err-BadRetrieval-clause-found
returns-in-Err-BadRetrieval-clause-found g c h =
    let s = g.D.Disk.state c.args.disk.now in
    let t = g.D.Disk.state c.read_version.new.disk in
    let before = c.report_prime.ensures.same.was_honest h in
    let bad = c.in-Err-BadRetrieval.bad in
    told_along s.size t.size (layout_number c.args.layout) s.contents t.contents c.args.n (Start (BadRetrieval bad))
    c.args.files.now.items
    c.args.findings.now.items c.report_prime.new.findings.items c.report_prime.result c.read_version.ensures.same.size
    (same_contents s.contents t.contents (c.read_version.ensures.keeps before).contents)
    (c.report_prime.ensures.reported h) (c.read_version.ensures.bad before bad (cc))

pub returns-in-Err-BadRetrieval-clause-reads : goal.returns-in-Err-BadRetrieval-clause-reads
returns-in-Err-BadRetrieval-clause-reads g c h =
    let s = g.D.Disk.state c.args.disk.now in
    let t = g.D.Disk.state c.read_version.new.disk in
    only_reads_on s t (g.D.Disk.state c.report_prime.new.disk)
    (reads_of s t (c.read_version.ensures.keeps (c.report_prime.ensures.same.was_honest h)))
    (c.report_prime.ensures.reads h)
