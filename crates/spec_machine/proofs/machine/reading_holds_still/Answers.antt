use Rattle.spec_machine.proofs.LookupLaws.{reading_holds}
use Rattle.spec_machine.proofs.machine.reading_holds_still.Goals as goal

pub returns-clause-found : goal.returns-clause-found
returns-clause-found c = reading_holds
