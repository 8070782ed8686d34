use Rattle.std.proofs.Common.{◌≡◌, ◌++◌, drop}
use Rattle.monitor.specs.Common.{in_core}
use Rattle.monitor.proofs.changed.in_core.Given as goal

abbrev pub invariant-loop-area : goal.invariant-loop-area
invariant-loop-area l = l.parts.items ++ in_core l.core (drop l.area-index l.areas) ≡ in_core l.core l.areas
