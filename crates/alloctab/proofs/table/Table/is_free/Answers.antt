use Rattle.std.proofs.Common.{subst}
use Rattle.alloctab.specs.Common.{IsTable}
use Rattle.alloctab.proofs.MemoryLaws.{sound}
use Rattle.alloctab.proofs.table.Table.is_free.Goals as goal

pub returns-then-not-is_set-clause-sound : goal.returns-then-not-is_set-clause-sound
returns-then-not-is_set-clause-sound c =
    subst IsTable c.self.view_is (sound _ _ _ _ _ _ c.self.invariant c.self.inside.booked)

pub returns-else-not-is_set-clause-sound : goal.returns-else-not-is_set-clause-sound
returns-else-not-is_set-clause-sound c =
    subst IsTable c.self.view_is (sound _ _ _ _ _ _ c.self.invariant c.self.inside.booked)
