use Rattle.std.proofs.Common.{◌≡◌, take}
use Rattle.spec_image.specs.Common.{total}
use Rattle.volume.proofs.Charges.Sums.{cost_under}
use Rattle.volume.proofs.charge.cost_of_files.Given as goal

abbrev pub invariant-loop-i : goal.invariant-loop-i
invariant-loop-i l = l.cost ≡ total (cost_under l.versions.slots) (take l.i l.keys.items)
