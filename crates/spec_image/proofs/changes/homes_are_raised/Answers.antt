use Rattle.std.proofs.Common.{refl}
use Rattle.spec_image.proofs.HomeChanges.{homes_raised}
use Rattle.spec_image.proofs.changes.homes_are_raised.Goals as goal

pub returns-clause-stands : goal.returns-clause-stands
returns-clause-stands c = homes_raised

pub returns-clause-files : goal.returns-clause-files
returns-clause-files c = λ m to. refl
