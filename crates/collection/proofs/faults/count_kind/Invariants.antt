use Rattle.std.proofs.Common.{◌≡◌, ◌≤◌, length, take}
use Rattle.collection.specs.Common.{of_kind}
use Rattle.collection.proofs.faults.count_kind.Given as goal

abbrev pub invariant-loop-finding : goal.invariant-loop-finding
invariant-loop-finding l = (l.count ≡ length (of_kind l.fn.task.owner l.fn.kind (take l.finding-index l.fn.findings)))
    × (l.count ≤ l.finding-index)
