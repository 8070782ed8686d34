use Rattle.std.proofs.Common.{Ok, None}
use Rattle.blockdisk.specs.Common.{IsVerify}
use Rattle.blockdisk.proofs.disk.Disk.verify.Given as goal

abbrev pub invariant-loop-n : goal.invariant-loop-n
invariant-loop-n g l = IsVerify l.fn.first l.n (g.Self.Disk.state l.fn.self) (g.Self.Disk.state l.self) (Ok None)
