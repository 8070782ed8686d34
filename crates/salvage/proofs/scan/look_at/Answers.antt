use Rattle.std.proofs.Common.{◌+◌, refl}
use Rattle.spec_image.specs.Common.{layout_number}
use Rattle.volume.proofs.common.MarkedBlocks.{on_ok}
use Rattle.salvage.specs.Common.{AreFound, IsReadAt}
use Rattle.salvage.proofs.ClaimedVersions.{owned_later}
use Rattle.salvage.proofs.LookedAt.{passed_by, found_more, searched_by}
use Rattle.salvage.proofs.scan.look_at.Goals as goal

pub returns-then-not-is_candidate-clause-found : goal.returns-then-not-is_candidate-clause-found
returns-then-not-is_candidate-clause-found g c h begun are owned found =
    let s = g.D.Disk.state c.args.disk.now in
    let d = c.args.searched.now in
    let old = c.args.files.now.items in
    let told = c.args.findings.now.items in
    passed_by s.size (layout_number d.layout) s.contents d.search d.counts.now old begun told c.args.n found d.free.now
    c.requires.inside.below are (λ is. let no = c.if-not-is_candidate.ensures.1 is in cc)

pub returns-then-not-is_candidate-clause-owned : goal.returns-then-not-is_candidate-clause-owned
returns-then-not-is_candidate-clause-owned g c h owned =
    let s = g.D.Disk.state c.args.disk.now in
    owned_later s.size (layout_number c.args.searched.now.layout) s.contents c.args.marks.now c.args.n owned

pub returns-clause-found : goal.returns-clause-found
returns-clause-found g c h begun are owned found =
    let s = g.D.Disk.state c.args.disk.now in
    let d = c.args.searched.now in
    let layout = layout_number d.layout in
    let counts = d.counts.now in
    let old = c.args.files.now.items in
    let new = c.claim_at.new.files.items in
    let told = c.args.findings.now.items in
    let after = c.claim_at.new.findings.items in
    let n = c.args.n in
    let is = c.if-not-is_candidate.ensures.0 refl in
    on_ok c.claim_at.result (IsReadAt s.size layout s.contents n old new told after)
    (AreFound s.size layout s.contents d.search counts new begun after (n + 1))
    (λ at. found_more s.size layout s.contents d.search counts old begun told n found new after c.requires.inside
    (searched_by d.search s.size s.contents d.free.now n c.requires.inside.below are is.1) is.0 at)
    (c.claim_at.ensures.found h owned)

pub returns-clause-owned : goal.returns-clause-owned
returns-clause-owned g c h owned = c.claim_at.ensures.owned h owned

pub returns-clause-loaded : goal.returns-clause-loaded
returns-clause-loaded g c h loaded = c.claim_at.ensures.loaded h loaded
