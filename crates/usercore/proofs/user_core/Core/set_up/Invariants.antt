use Rattle.std.proofs.Common.{◌≡◌}
use Rattle.spec_machine.specs.Common.{after_writes, ring_writes}
use Rattle.usercore.proofs.user_core.Core.set_up.Given as goal

abbrev pub invariant-loop-k : goal.invariant-loop-k
invariant-loop-k l = l.self ≡ after_writes l.fn.self (ring_writes l.base l.count l.k)
