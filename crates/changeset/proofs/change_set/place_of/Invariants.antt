use Rattle.std.proofs.Common.{◌≡◌, take}
use Rattle.spec_image.specs.Common.{times, targets}
use Rattle.changeset.proofs.change_set.place_of.Given as goal

abbrev pub invariant-loop-i : goal.invariant-loop-i
invariant-loop-i l = times l.block (targets (take l.i l.puts)) ≡ 0
