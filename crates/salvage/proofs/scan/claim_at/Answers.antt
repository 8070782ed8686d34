use Rattle.std.proofs.Common.{◌≡◌, ℕ, true, OnOk, refl}
use Rattle.blockdisk.specs.Common.{same_contents}
use Rattle.spec_image.specs.Common.{layout_number}
use Rattle.changeset.proofs.LogRead.{only_reads_on}
use Rattle.alloctab.specs.Common.{flag_at}
use Rattle.salvage.specs.Common.{IsExtension, IsOwnedAgain, IsReadAt}
use Rattle.salvage.specs.declared.finding.Defect.TheVariants.{TwoOwners}
use Rattle.salvage.proofs.CarriedFacts.{always, moved}
use Rattle.salvage.proofs.ClaimedChains.{if_none, if_some}
use Rattle.salvage.proofs.ClaimedVersions.{loaded_read, loaded_still, owned_more, owned_twice}
use Rattle.salvage.proofs.PrimesRead.{told_along}
use Rattle.salvage.proofs.scan.claim_at.Goals as goal

pub returns-in-None-clause-found : goal.returns-in-None-clause-found
returns-in-None-clause-found g c h owned =
    let s = g.D.Disk.state c.args.disk.now in
    let t = g.D.Disk.state c.mark_extensions.new.disk in
    let was = c.read_at.ensures.same.was_honest h in
    moved (λ n k. OnOk c.read_at.result (IsReadAt n (layout_number c.args.layout) k c.args.n c.args.files.now.items
    c.read_at.new.files.items c.args.findings.now.items c.read_at.new.findings.items)) s.size t.size s.contents
    t.contents c.mark_extensions.ensures.same.size
    (same_contents s.contents t.contents (c.mark_extensions.ensures.reads was).still.contents)
    (c.read_at.ensures.found h)

pub returns-in-None-clause-once : goal.returns-in-None-clause-once
returns-in-None-clause-once g c h m set there =
    let s = g.D.Disk.state c.args.disk.now in
    let was = c.read_at.ensures.same.was_honest h in
    absurd ((if_none c.in_ok-met.met
    ((k : ℕ) → IsExtension s.size (layout_number c.args.layout) s.contents c.args.n k
    → (flag_at c.mark_extensions.new.marks k ≡ true) × (flag_at c.args.marks.now k ≡ true → ⊥)) c.in-None.is
    (c.in_ok-met.ensures.unmet was) m there).1 set)

pub returns-in-None-clause-loaded : goal.returns-in-None-clause-loaded
returns-in-None-clause-loaded g c h loaded =
    let s = g.D.Disk.state c.args.disk.now in
    let t = g.D.Disk.state c.mark_extensions.new.disk in
    let was = c.read_at.ensures.same.was_honest h in
    let marks = c.mark_extensions.new.marks in
    loaded_read s.size t.size (layout_number c.args.layout) s.contents t.contents c.args.marks.now marks c.args.n
    c.args.files.now.items c.read_at.new.files.items c.args.findings.now.items c.read_at.new.findings.items
    c.read_at.result c.mark_extensions.ensures.same.size
    (same_contents s.contents t.contents (c.mark_extensions.ensures.reads was).still.contents)
    (c.read_at.ensures.found h) c.in_ok-met.ensures.stays
    (if_none c.in_ok-met.met
    ((k : ℕ) → IsExtension s.size (layout_number c.args.layout) s.contents c.args.n k
    → (flag_at marks k ≡ true) × (flag_at c.args.marks.now k ≡ true → ⊥)) c.in-None.is
    (c.in_ok-met.ensures.unmet was)) loaded

pub returns-in-None-clause-owned : goal.returns-in-None-clause-owned
returns-in-None-clause-owned g c h owned =
    let s = g.D.Disk.state c.args.disk.now in
    let was = c.read_at.ensures.same.was_honest h in
    always c.read_at.result (owned_more s.size (layout_number c.args.layout) s.contents c.args.marks.now c.args.n owned
    c.mark_extensions.new.marks (c.in_ok-met.ensures.only was))

pub returns-in-None-clause-reads : goal.returns-in-None-clause-reads
returns-in-None-clause-reads g c h =
    only_reads_on (g.D.Disk.state c.args.disk.now) (g.D.Disk.state c.mark_extensions.new.disk)
    (g.D.Disk.state c.read_at.new.disk) (c.mark_extensions.ensures.reads (c.read_at.ensures.same.was_honest h))
    (c.read_at.ensures.reads h)

pub returns-in-Some-clause-found : goal.returns-in-Some-clause-found
returns-in-Some-clause-found g c h owned =
    let s = g.D.Disk.state c.args.disk.now in
    let t = g.D.Disk.state c.mark_extensions.new.disk in
    let was = c.report_prime.ensures.same.was_honest h in
    let layout = layout_number c.args.layout in
    let met = if_some c.in_ok-met.met c.in-Some.block (IsOwnedAgain s.size layout s.contents c.args.marks.now c.args.n)
    c.in-Some.is (c.in_ok-met.ensures.met was) in
    told_along s.size t.size layout s.contents t.contents c.args.n (TwoOwners c.in-Some.block) c.args.files.now.items
    c.args.findings.now.items c.report_prime.new.findings.items c.report_prime.result
    c.mark_extensions.ensures.same.size
    (same_contents s.contents t.contents (c.mark_extensions.ensures.reads was).still.contents)
    (c.report_prime.ensures.reported h)
    (owned_twice s.size layout s.contents c.args.marks.now c.args.n owned c.in-Some.block met)

pub returns-in-Some-clause-once : goal.returns-in-Some-clause-once
returns-in-Some-clause-once g c h m set there = always c.report_prime.result refl

pub returns-in-Some-clause-loaded : goal.returns-in-Some-clause-loaded
returns-in-Some-clause-loaded g c h loaded =
    let s = g.D.Disk.state c.args.disk.now in
    always c.report_prime.result (loaded_still s.size (layout_number c.args.layout) s.contents c.args.marks.now
    c.mark_extensions.new.marks c.args.files.now.items loaded c.in_ok-met.ensures.stays)

pub returns-in-Some-clause-owned : goal.returns-in-Some-clause-owned
returns-in-Some-clause-owned g c h owned =
    let s = g.D.Disk.state c.args.disk.now in
    let was = c.report_prime.ensures.same.was_honest h in
    always c.report_prime.result (owned_more s.size (layout_number c.args.layout) s.contents c.args.marks.now c.args.n
    owned c.mark_extensions.new.marks (c.in_ok-met.ensures.only was))

pub returns-in-Some-clause-reads : goal.returns-in-Some-clause-reads
returns-in-Some-clause-reads g c h =
    only_reads_on (g.D.Disk.state c.args.disk.now) (g.D.Disk.state c.mark_extensions.new.disk)
    (g.D.Disk.state c.report_prime.new.disk)
    (c.mark_extensions.ensures.reads (c.report_prime.ensures.same.was_honest h)) (c.report_prime.ensures.reads h)
