use Rattle.std.proofs.Common.{◌≡◌, ◌++◌, ◌∷◌, [], drop, take}
use Rattle.spec_image.specs.Common.{layout_number}
use Rattle.retrieval.specs.Common.{runs_of}
use Rattle.volume.proofs.common.MarkedBlocks.{on_ok}
use Rattle.volume.proofs.VolumeStart.Opens.{reads_of}
use Rattle.salvage.specs.Common.{IsReported}
use Rattle.salvage.specs.declared.finding.Finding.{Finding}
use Rattle.salvage.specs.declared.finding.Cost.TheVariants as cost
use Rattle.salvage.proofs.PrimesRead.{none_reported, one_reported}
use Rattle.salvage.proofs.scan.report_prime.Goals as goal

pub returns-in_default-clause-reported : goal.returns-in_default-clause-reported
returns-in_default-clause-reported g c h bad =
    let s = g.D.Disk.state c.args.disk.now in
    none_reported s.size (layout_number c.args.layout) s.contents c.args.n c.in-Ok.block c.args.findings.now.items
    (c.in-Ok.ensures.words h) c.in_default.ensures.none

pub returns-clause-reported : goal.returns-clause-reported
returns-clause-reported g c h bad =
    let s = g.D.Disk.state c.args.disk.now in
    let layout = layout_number c.args.layout in
    let head = c.in-Some.head in
    let old = c.args.findings.now.items in
    let new = c.push_finding.new.findings.items in
    let told : Finding = record {
      fault = c.args.fault;
      costs = cost.Unnamed head.prime.ppn head.prime.file c.args.n;
    } in
    on_ok c.push_finding.result (new ≡ old ++ told ∷ []) (IsReported s.size layout s.contents c.args.n old new)
    (λ is. one_reported s.size layout s.contents c.args.n c.args.fault c.in-Ok.block head.prime head.length
    (runs_of (take head.count (drop 16 c.in-Ok.block))) head.next old new c.requires.inside bad
    (c.in-Ok.ensures.words h) c.in-Some.ensures.some is) c.push_finding.ensures.told

pub returns-clause-reads : goal.returns-clause-reads
returns-clause-reads g c h =
    reads_of (g.D.Disk.state c.args.disk.now) (g.D.Disk.state c.read.new.self) (c.read.ensures.keeps h)
