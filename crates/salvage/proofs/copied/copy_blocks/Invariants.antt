use Rattle.salvage.proofs.CopySteps.{IsCopying}
use Rattle.salvage.proofs.copied.copy_blocks.Given as goal

abbrev pub invariant-loop-n : goal.invariant-loop-n
invariant-loop-n g l = IsCopying (g.D.Disk.state l.fn.disk) (g.D.Disk.state l.disk) l.fn.size l.n l.copy l.unread
