use Rattle.salvage.proofs.FreeTables.{MarksTo}
use Rattle.salvage.proofs.free.mark_free.Given as goal

abbrev pub invariant-loop-n : goal.invariant-loop-n
invariant-loop-n l = MarksTo l.size l.i l.words l.fn.free l.free l.n
