use Rattle.std.proofs.Common.{◌≡◌, drop}
use Rattle.blockdisk.specs.Common.{at_sync}
use Rattle.blockdisk.proofs.memory.at_sync.Given as goal

abbrev pub invariant-loop-call : goal.invariant-loop-call
invariant-loop-call l = at_sync l.n l.old l.now (drop l.call-index l.calls) ≡ at_sync l.n l.fn.first l.fn.first l.calls
