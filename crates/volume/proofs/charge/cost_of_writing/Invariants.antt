use Rattle.std.proofs.Common.{◌≡◌, ◌+◌}
use Rattle.spec_image.specs.Common.{total}
use Rattle.volume.specs.Common.{writes_in}
use Rattle.volume.proofs.Charges.Sums.{written, HaveFewBlocks}
use Rattle.volume.proofs.charge.cost_of_writing.Given as goal

-- those that were counted and those that are left are all
abbrev pub invariant-loop-version : goal.invariant-loop-version
invariant-loop-version l =
    (goal.iterator-loop-version).can_next l.version-iterator ×
    (goal.iterator-loop-version).is_finite l.version-iterator ×
    (l.cost + written l.ppn l.version-iterator ≡ total (writes_in l.ppn) l.pending.slots) ×
    HaveFewBlocks l.version-iterator
