use Rattle.std.proofs.Common.{◌≡◌, ℕ, true, [], List, OnOk, inr, map, length, ap, sym, subst, ◌∙◌, nat_cmp}
use Rattle.std.proofs.lemmas.List.{length-replicate}
use Rattle.std.specs.Prelude.{◌↔◌}
use Rattle.std.specs.List.{AllByRecursion}
use Rattle.blockdisk.specs.Common.{Contents, same_contents}
use Rattle.changeset.proofs.LogRead.{only_reads_on}
use Rattle.alloctab.specs.Common.{flag_at}
use Rattle.directory.specs.Common.{viewed}
use Rattle.spec_image.specs.Common.{SpecMasterEntry, layout_number, EachOnce, IsDirectoryNamed}
use Rattle.volume.specs.Common.{master_view}
use Rattle.salvage.specs.Common.{AreWalked, IsMasterWalked, IsReadTo}
use Rattle.salvage.proofs.CarriedFacts.{moved, on_ok}
use Rattle.salvage.proofs.OwnedFiles.{no_owners}
use Rattle.salvage.proofs.ReadChains.{master_on}
use Rattle.salvage.proofs.Refusals.{master_refused}
use Rattle.salvage.proofs.TreesRead.{none_read_on, tree_marked}
use Rattle.salvage.proofs.tree.add_master.Goals as goal

pub add_directories-requires-clause-owners : goal.add_directories-requires-clause-owners
add_directories-requires-clause-owners g c =
    let size : ℕ = (g.D.Disk.state c.args.disk.now).size in
    ap length c.requires.no_owners ∙ length-replicate {A = ℕ} size 0
    ∙ sym (c.mark_master.ensures.same.size ∙ c.load_chain.ensures.same.size)

pub returns-in_ok-mark_master-in-Ok-clause-tree : goal.returns-in_ok-mark_master-in-Ok-clause-tree
returns-in_ok-mark_master-in-Ok-clause-tree g c h home =
    let s = g.D.Disk.state c.args.disk.now in
    let first = g.D.Disk.state c.load_chain.new.disk in
    let now = g.D.Disk.state c.mark_master.new.disk in
    let marked = c.add_directories.ensures.same.was_honest h in
    let was = c.mark_master.ensures.same.was_honest marked in
    let layout = layout_number c.args.home.layout in
    let files = c.args.reading.now.files.items in
    let findings = c.args.reading.now.findings.items in
    let reads = only_reads_on s first now (c.load_chain.ensures.reads was) (c.mark_master.ensures.reads marked) in
    master_on s.size now.size layout s.contents now.contents c.args.home.master (viewed master_view c.in-Ok.chain) files
    c.add_directories.new.reading.files.items findings c.add_directories.new.reading.findings.items
    c.add_directories.result (c.mark_master.ensures.same.size ∙ c.load_chain.ensures.same.size)
    (same_contents s.contents now.contents reads.still.contents) c.requires.no_files
    c.requires.no_findings c.requires.volume home c.in-Ok.ensures.chain (c.in-Ok.ensures.on was)
    (c.in-Ok.ensures.walk was) c.in-Ok.ensures.begins c.in-Ok.ensures.inside
    (subst (λ (es : List SpecMasterEntry).
    AllByRecursion (λ (x : SpecMasterEntry). IsDirectoryNamed now.size now.contents layout x.0 x.1.0 x.1.1) es
    → EachOnce nat_cmp es → IsReadTo now.size layout now.contents [] 0 [] files findings
    → OnOk c.add_directories.result (IsReadTo now.size layout now.contents es 0 []
    c.add_directories.new.reading.files.items c.add_directories.new.reading.findings.items))
    (ap (map master_view) c.entries.ensures.value)
    (λ named once so_far. c.add_directories.ensures.read h
    (no_owners s.size c.args.reading.now.owners files c.requires.no_owners) named once so_far))

pub returns-in_ok-mark_master-in-Ok-clause-marked : goal.returns-in_ok-mark_master-in-Ok-clause-marked
returns-in_ok-mark_master-in-Ok-clause-marked g c h home =
    let s = g.D.Disk.state c.args.disk.now in
    let now = g.D.Disk.state c.load_chain.new.disk in
    let marked = c.add_directories.ensures.same.was_honest h in
    let was = c.mark_master.ensures.same.was_honest marked in
    let sizes = c.load_chain.ensures.same.size in
    let same = same_contents s.contents now.contents (c.load_chain.ensures.reads was).still.contents in
    let ensures = c.in_ok-mark_master-in-Ok.ensures in
    let first = c.args.home.master in
    let entries = map master_view c.in-Ok.chain.entries in
    let master = c.mark_master.new.marks in
    let directories = c.add_directories.new.marks in
    let later = g.D.Disk.state c.mark_master.new.disk in
    let reads = only_reads_on s now later (c.load_chain.ensures.reads was) (c.mark_master.ensures.reads marked) in
    on_ok c.add_directories.result
    (λ walked. inr (tree_marked s.size (layout_number c.args.home.layout) s.contents first
    (viewed master_view c.in-Ok.chain) master directories c.requires.volume home c.in-Ok.ensures.chain
    (c.in-Ok.ensures.on was) (c.in-Ok.ensures.walk was) c.in-Ok.ensures.begins c.in-Ok.ensures.inside
    (moved (λ (k : ℕ) (d : Contents). (n : ℕ) → (flag_at master n ≡ true) ↔ IsMasterWalked k d first n) s.size
    now.size s.contents now.contents sizes same (ensures.marked marked))
    (moved (λ (k : ℕ) (d : Contents). AreWalked k d entries directories) s.size later.size s.contents later.contents
    (c.mark_master.ensures.same.size ∙ sizes) (same_contents s.contents later.contents reads.still.contents)
    (subst (λ (es : List SpecMasterEntry). AreWalked later.size later.contents es directories)
    (ap (map master_view) c.entries.ensures.value) walked))))
    (c.add_directories.ensures.walked h)

pub returns-in_ok-mark_master-in-Ok-clause-reads : goal.returns-in_ok-mark_master-in-Ok-clause-reads
returns-in_ok-mark_master-in-Ok-clause-reads g c h =
    let s = g.D.Disk.state c.args.disk.now in
    let first = g.D.Disk.state c.load_chain.new.disk in
    let now = g.D.Disk.state c.mark_master.new.disk in
    let last = g.D.Disk.state c.add_directories.new.disk in
    let marked = c.add_directories.ensures.same.was_honest h in
    let was = c.mark_master.ensures.same.was_honest marked in
    only_reads_on s now last
    (only_reads_on s first now (c.load_chain.ensures.reads was) (c.mark_master.ensures.reads marked))
    (c.add_directories.ensures.reads h)

pub returns-in-Err-clause-tree : goal.returns-in-Err-clause-tree
returns-in-Err-clause-tree g c h home =
    let s = g.D.Disk.state c.args.disk.now in
    let ensures = c.load_chain.ensures in
    none_read_on s.size (layout_number c.args.home.layout) s.contents c.args.reading.now.files.items
    c.args.reading.now.findings.items c.report_refusal.new.findings.items c.in-Err.refusal c.report_refusal.result
    c.requires.no_files c.requires.no_findings
    (master_refused s.size c.args.home.layout s.contents c.args.home.master c.load_chain.result c.in-Err.refusal
    c.in-Err.is c.requires.volume home ensures.only (ensures.bad h) (ensures.twice h) ensures.named)
    c.report_refusal.ensures.told c.report_refusal.ensures.fault
