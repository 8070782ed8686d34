use Rattle.std.proofs.Common.{◌≡◌, None, replicate}
use Rattle.monitor.proofs.job.empty_slots.Given as goal

abbrev pub invariant-loop-made : goal.invariant-loop-made
invariant-loop-made l = l.slots.items ≡ replicate l._made None
