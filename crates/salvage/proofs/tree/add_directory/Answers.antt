use Rattle.std.proofs.Common.{◌≡◌, [], List, None, OnOk, map, ap, subst, nat_cmp}
use Rattle.std.specs.FinMap.Entries.{find}
use Rattle.std.specs.List.{AllByRecursion}
use Rattle.blockdisk.specs.Common.{same_contents}
use Rattle.directory.specs.Common.{viewed}
use Rattle.spec_image.specs.Common.{SpecMasterEntry, SpecFileEntry, name_cmp, layout_number, EachOnce}
use Rattle.volume.specs.Common.{file_view, master_view}
use Rattle.salvage.specs.Common.{IsNamedIn, IsReadTo}
use Rattle.salvage.proofs.ReadChains.{directory_on}
use Rattle.salvage.proofs.ReadSteps.{directory_told_on}
use Rattle.salvage.proofs.Refusals.{directory_refused}
use Rattle.salvage.proofs.tree.add_directory.Goals as goal

pub returns-in-Ok-clause-read : goal.returns-in-Ok-clause-read
returns-in-Ok-clause-read g c h held directories word named new apart r =
    let s = g.D.Disk.state c.args.disk.now in
    let now = g.D.Disk.state c.load_chain.new.disk in
    let was = c.add_files.ensures.same.was_honest h in
    let e = master_view c.args.entry.now in
    let layout = layout_number c.args.layout in
    let files = c.args.reading.now.files.items in
    let findings = c.args.reading.now.findings.items in
    directory_on s.size now.size layout s.contents now.contents directories e word (viewed file_view c.in-Ok.chain)
    files c.add_files.new.reading.files.items findings c.add_files.new.reading.findings.items c.add_files.result
    c.load_chain.ensures.same.size
    (same_contents s.contents now.contents (c.load_chain.ensures.reads was).still.contents) named new
    c.in-Ok.ensures.chain (c.in-Ok.ensures.on was) (c.in-Ok.ensures.walk was) c.in-Ok.ensures.begins
    c.in-Ok.ensures.inside apart r
    (subst (λ (es : List SpecFileEntry). (ds : List SpecMasterEntry)
    → AllByRecursion (IsNamedIn now.size layout now.contents e.0) es → EachOnce name_cmp es
    → find nat_cmp e.0 ds ≡ None → IsReadTo now.size layout now.contents ds e.0 [] files findings
    → OnOk c.add_files.result (IsReadTo now.size layout now.contents ds e.0 es c.add_files.new.reading.files.items
    c.add_files.new.reading.findings.items)) (ap (map file_view) c.entries.ensures.value)
    (λ ds named_here once new_here so_far. c.add_files.ensures.read h held ds named_here once new_here so_far))

pub returns-in-Err-clause-read : goal.returns-in-Err-clause-read
returns-in-Err-clause-read g c h held directories word named new apart r =
    let s = g.D.Disk.state c.args.disk.now in
    let e = c.args.entry.now in
    let layout = layout_number c.args.layout in
    let ensures = c.load_chain.ensures in
    directory_told_on s.size layout s.contents directories c.args.reading.now.files.items
    c.args.reading.now.findings.items c.report_refusal.new.findings.items (master_view e) c.in-Err.refusal
    c.report_refusal.result r
    (directory_refused s.size layout s.contents e.ppn word e.first c.load_chain.result c.in-Err.refusal c.in-Err.is
    named ensures.only (ensures.bad h) (ensures.twice h) ensures.named)
    c.report_refusal.ensures.told c.report_refusal.ensures.fault
