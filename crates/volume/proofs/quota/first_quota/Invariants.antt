use Rattle.std.proofs.Common.{take}
use Rattle.std.specs.List.{AllByRecursion}
use Rattle.volume.specs.Common.{HasNoQuota}
use Rattle.volume.proofs.quota.first_quota.Given as goal

abbrev pub invariant-loop-i : goal.invariant-loop-i
invariant-loop-i l = AllByRecursion HasNoQuota (take l.i l.entries)
