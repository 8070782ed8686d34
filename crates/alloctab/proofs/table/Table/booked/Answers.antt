use Rattle.std.proofs.Common.{subst}
use Rattle.alloctab.specs.Common.{IsTable}
use Rattle.alloctab.proofs.MemoryLaws.{sound}
use Rattle.alloctab.proofs.table.Table.booked.Goals as goal

pub returns-clause-sound : goal.returns-clause-sound
returns-clause-sound c = subst IsTable c.self.view_is (sound _ _ _ _ _ _ c.self.invariant c.self.inside.booked)
