use Rattle.std.proofs.Common.{arith}
use Rattle.volume.proofs.common.CostLaws.{cost_is}
use Rattle.volume.proofs.common.LiveTotals.{memory_uses, memory_used}
use Rattle.volume.proofs.cost.known_maps_are_booked.Goals as goal

pub returns-clause-cost : goal.returns-clause-cost
returns-clause-cost c = cost_is

pub returns-clause-used : goal.returns-clause-used
returns-clause-used c size memory whole = let a = memory_used size memory whole in let b =
    memory_uses size memory whole in
    omega arith
