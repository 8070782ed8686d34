use Rattle.std.proofs.Common.{◌≡◌, None}
use Rattle.collection.specs.Common.{most_told}
use Rattle.collection.proofs.FaultLaws.{DoneWithRoom}
use Rattle.collection.proofs.faults.report_first.Given as goal

abbrev pub invariant-loop-finding : goal.invariant-loop-finding
invariant-loop-finding g l = DoneWithRoom l.fn.task l.fn.kind most_told l.fn.findings (g.W.Write.contents l.fn.writer)
    l.finding-index l.room l.tally (g.W.Write.contents l.writer)
    × (l.tally.reason ≡ None)
