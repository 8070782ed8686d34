use Rattle.std.specs.List.{AllByRecursion}
use Rattle.spec_image.specs.Common.{IsTarget, targets}
use Rattle.test_base.proofs.change_tests.puts.Given as goal

abbrev pub invariant-loop-i : goal.invariant-loop-i
invariant-loop-i g l = AllByRecursion (IsTarget 64) (targets l.set)
