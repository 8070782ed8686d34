use Rattle.std.proofs.Common.{ℕ, replicate, refl, ap, ◌∙◌}
use Rattle.std.proofs.lemmas.Result.{IfOk-weaker}
use Rattle.spec_image.specs.Common.{layout_number}
use Rattle.salvage.specs.Common.{AreAdded, AreAlone, AreFound, IsScanned}
use Rattle.salvage.proofs.CountLaws.{first_counts}
use Rattle.salvage.proofs.LookedAt.{all_added, all_scanned, ok_both}
use Rattle.salvage.proofs.scan.scan.Goals as goal

pub returns-clause-scanned : goal.returns-clause-scanned
returns-clause-scanned g c h are =
    let s = g.D.Disk.state c.args.disk.now in
    let layout = layout_number c.args.layout in
    let counts = c.count_files.new.self in
    let named = c.args.named.now in
    let old = c.args.findings.now.items in
    let new = c.look_through.new.findings.items in
    ok_both c.look_through.result
    (λ files. AreFound s.size layout s.contents c.args.search counts files.items old new s.size)
    (λ files. AreAlone s.size layout s.contents files.items)
    (λ files. IsScanned s.size layout s.contents c.args.search named files.items new)
    (λ files found alone. all_scanned s.size layout s.contents c.args.search counts named files.items old new
    (first_counts s.size c.in_ok-counts.counts counts named named
    (c.in_ok-counts.ensures.zeros ∙ ap (λ (k : ℕ). replicate k 0) c.blocks-size.ensures) refl
    c.count_files.ensures.counted) found alone)
    (c.look_through.ensures.found h are) (c.look_through.ensures.alone h)

pub returns-clause-added : goal.returns-clause-added
returns-clause-added g c h are =
    let s = g.D.Disk.state c.args.disk.now in
    let layout = layout_number c.args.layout in
    let counts = c.count_files.new.self in
    let old = c.args.findings.now.items in
    let new = c.look_through.new.findings.items in
    IfOk-weaker c.look_through.result
    (λ files. AreFound s.size layout s.contents c.args.search counts files.items old new s.size)
    (λ files. AreAdded s.size layout s.contents old new)
    (λ files found. all_added s.size layout s.contents c.args.search counts files.items old new s.size found)
    (c.look_through.ensures.found h are)
