use Rattle.collection.specs.Common.{IsKindDone, kinds}
use Rattle.collection.proofs.EachLaws.{Done}
use Rattle.collection.proofs.faults.report_findings.Given as goal

abbrev pub invariant-loop-kind : goal.invariant-loop-kind
invariant-loop-kind g l = Done (IsKindDone l.fn.task l.fn.findings) kinds (g.W.Write.contents l.fn.writer) tt l.kind
    l.tally (g.W.Write.contents l.writer) tt
