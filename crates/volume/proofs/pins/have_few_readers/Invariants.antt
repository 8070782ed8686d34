use Rattle.volume.proofs.PinVersion.CountedReaders.{HaveFew, AreFew}
use Rattle.volume.proofs.pins.have_few_readers.Given as goal

-- if those that are left have few, all have, and the other way round
abbrev pub invariant-loop-version : goal.invariant-loop-version
invariant-loop-version l =
    (goal.iterator-loop-version).can_next l.version-iterator ×
    (goal.iterator-loop-version).is_finite l.version-iterator ×
    (HaveFew l.version-iterator → AreFew l.versions.slots) ×
    (AreFew l.versions.slots → HaveFew l.version-iterator)
