use Rattle.blockdisk.specs.Common.{same_contents}
use Rattle.changeset.proofs.LogRead.{only_reads_on}
use Rattle.spec_image.specs.Common.{IsFileEntry, file_words, layout_number}
use Rattle.volume.specs.Common.{master_view}
use Rattle.salvage.specs.Common.{IsMetAgain}
use Rattle.salvage.proofs.CarriedFacts.{always}
use Rattle.salvage.proofs.ClaimedChains.{apart_from, claimed_on, if_some, none_met, shared_lost, shared_told}
use Rattle.salvage.proofs.WalkedChains.{marked_one}
use Rattle.salvage.proofs.tree.claim_directory.Goals as goal

pub returns-in-None-clause-read : goal.returns-in-None-clause-read
returns-in-None-clause-read g c h held directories word all walked named new r =
    let s = g.D.Disk.state c.args.disk.now in
    let now = g.D.Disk.state c.mark_chain.new.disk in
    let was = c.add_directory.ensures.same.was_honest h in
    let e = master_view c.args.entry.now in
    claimed_on s.size now.size (layout_number c.args.layout) s.contents now.contents directories e word
    c.args.reading.now.files.items c.add_directory.new.reading.files.items c.args.reading.now.findings.items
    c.add_directory.new.reading.findings.items c.add_directory.result c.mark_chain.ensures.same.size
    (same_contents s.contents now.contents (c.mark_chain.ensures.reads was).still.contents)
    (apart_from s.size s.contents c.args.marks.now e.1.1 c.in_ok-met.met c.in-None.is (c.in_ok-met.ensures.unmet was)
    directories walked) named new r
    (λ ds w named_here new_here apart so_far. c.add_directory.ensures.read h held ds w named_here new_here apart so_far)

pub returns-in-None-clause-owned : goal.returns-in-None-clause-owned
returns-in-None-clause-owned g c h n set walk =
    let s = g.D.Disk.state c.args.disk.now in
    let was = c.add_directory.ensures.same.was_honest h in
    absurd (none_met s.size s.contents c.args.marks.now c.args.entry.now.first c.in_ok-met.met c.in-None.is
    (c.in_ok-met.ensures.unmet was) n set walk)

pub returns-in-None-clause-marked : goal.returns-in-None-clause-marked
returns-in-None-clause-marked g c h directories before =
    let s = g.D.Disk.state c.args.disk.now in
    let was = c.add_directory.ensures.same.was_honest h in
    let ensures = c.in_ok-met.ensures in
    always c.add_directory.result (marked_one s.size s.contents directories (master_view c.args.entry.now)
    c.args.marks.now c.mark_chain.new.marks before (ensures.begins was) ensures.stays (ensures.only was)
    (ensures.closed was))

pub returns-in-None-clause-reads : goal.returns-in-None-clause-reads
returns-in-None-clause-reads g c h =
    only_reads_on (g.D.Disk.state c.args.disk.now) (g.D.Disk.state c.mark_chain.new.disk)
    (g.D.Disk.state c.add_directory.new.disk) (c.mark_chain.ensures.reads (c.add_directory.ensures.same.was_honest h))
    (c.add_directory.ensures.reads h)

pub returns-in-Some-clause-read : goal.returns-in-Some-clause-read
returns-in-Some-clause-read g c h held directories word all walked named new r =
    let s = g.D.Disk.state c.args.disk.now in
    let e = c.args.entry.now in
    shared_told c.args.reading.now.findings.items c.push_finding.new.findings.items e.ppn c.in-Some.n
    c.push_finding.result c.push_finding.ensures.told s.size (layout_number c.args.layout) s.contents directories word
    e.first c.args.marks.now c.args.reading.now.files.items all walked named new r
    (if_some c.in_ok-met.met c.in-Some.n
    (IsMetAgain file_words IsFileEntry s.size s.contents c.args.marks.now e.first) c.in-Some.is
    (c.in_ok-met.ensures.met h)) (master_view e).1.0

pub returns-in-Some-clause-owned : goal.returns-in-Some-clause-owned
returns-in-Some-clause-owned g c h n set walk =
    shared_lost c.args.reading.now.findings.items c.push_finding.new.findings.items c.args.entry.now.ppn c.in-Some.n
    c.push_finding.result c.push_finding.ensures.told c.args.reading.now.files.items

pub returns-in-Some-clause-marked : goal.returns-in-Some-clause-marked
returns-in-Some-clause-marked g c h directories before =
    let s = g.D.Disk.state c.args.disk.now in
    let ensures = c.in_ok-met.ensures in
    always c.push_finding.result (marked_one s.size s.contents directories (master_view c.args.entry.now)
    c.args.marks.now c.mark_chain.new.marks before (ensures.begins h) ensures.stays (ensures.only h)
    (ensures.closed h))
