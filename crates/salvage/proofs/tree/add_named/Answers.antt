use Rattle.blockdisk.specs.Common.{same_contents}
use Rattle.changeset.proofs.LogRead.{only_reads_on}
use Rattle.spec_image.specs.Common.{layout_number}
use Rattle.volume.specs.Common.{file_view}
use Rattle.salvage.proofs.ReadSteps.{elsewhere_told_on, file_later}
use Rattle.salvage.proofs.tree.add_named.Goals as goal

pub returns-then-not-is_own-clause-read : goal.returns-then-not-is_own-clause-read
returns-then-not-is_own-clause-read g c h held directories names named new_directory new_name r =
    let s = g.D.Disk.state c.args.disk.now in
    elsewhere_told_on s.size (layout_number c.args.layout) s.contents directories c.args.ppn names
    c.args.reading.now.files.items c.args.reading.now.findings.items c.push_finding.new.findings.items
    (file_view c.args.entry.now) c.push_finding.result r named c.requires.inside
    (c.in_ok-is_own.ensures.other h (λ is. cc)) c.push_finding.ensures.told

pub returns-clause-read : goal.returns-clause-read
returns-clause-read g c h held directories names named new_directory new_name r =
    let s = g.D.Disk.state c.args.disk.now in
    let now = g.D.Disk.state c.is_prime_at.new.disk in
    let was = c.add_file.ensures.same.was_honest h in
    file_later s.size now.size (layout_number c.args.layout) s.contents now.contents directories c.args.ppn names
    c.args.reading.now.files.items c.add_file.new.reading.files.items c.args.reading.now.findings.items
    c.add_file.new.reading.findings.items (file_view c.args.entry.now) c.add_file.result c.is_prime_at.ensures.same.size
    (same_contents s.contents now.contents (c.is_prime_at.ensures.reads was).still.contents) new_directory new_name
    named r
    (λ ds ns here new_here name_here so_far. c.add_file.ensures.read h held ds ns here new_here name_here so_far)

pub returns-clause-reads : goal.returns-clause-reads
returns-clause-reads g c h =
    only_reads_on (g.D.Disk.state c.args.disk.now) (g.D.Disk.state c.is_prime_at.new.disk)
    (g.D.Disk.state c.add_file.new.disk) (c.is_prime_at.ensures.reads (c.add_file.ensures.same.was_honest h))
    (c.add_file.ensures.reads h)
