use Rattle.std.proofs.Common.{◌≡◌, ◌+◌, ◌≤◌, length}
use Rattle.spec_image.specs.Common.{total}
use Rattle.slab.specs.Slab.{slab_len}
use Rattle.volume.specs.Common.{creates}
use Rattle.volume.proofs.BeginVersion.Counts.{created}
use Rattle.volume.proofs.begin.creations.Given as goal

-- those that were counted and those that are left are all
abbrev pub invariant-loop-version : goal.invariant-loop-version
invariant-loop-version l =
    (goal.iterator-loop-version).can_next l.version-iterator ×
    (goal.iterator-loop-version).is_finite l.version-iterator ×
    (l.count + created l.ppn l.version-iterator ≡ total (creates l.ppn) l.pending.slots) ×
    (l.count + length l.version-iterator ≤ slab_len l.pending)
