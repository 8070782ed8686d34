use Rattle.std.proofs.Common.{◌≡◌, ℕ, ◌<◌}
use Rattle.alloctab.specs.Common.{bit, wanted_bit}
use Rattle.alloctab.proofs.table.Table.wrong_block.Given as goal

abbrev pub invariant-loop-k : goal.invariant-loop-k
invariant-loop-k l = (m : ℕ) → m < l.k → bit l.self m ≡ wanted_bit l.self.size l.reached m
