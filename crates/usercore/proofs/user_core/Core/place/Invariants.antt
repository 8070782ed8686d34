use Rattle.std.proofs.Common.{◌≡◌, take}
use Rattle.spec_machine.specs.Common.{after_writes, placed}
use Rattle.usercore.proofs.user_core.Core.place.Given as goal

abbrev pub invariant-loop-i : goal.invariant-loop-i
invariant-loop-i l = l.self ≡ after_writes l.fn.self (placed l.first (take l.i l.words))
