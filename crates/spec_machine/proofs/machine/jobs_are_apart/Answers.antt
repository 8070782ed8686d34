use Rattle.spec_machine.proofs.StepLaws.{spares_step}
use Rattle.spec_machine.proofs.machine.jobs_are_apart.Goals as goal

pub returns : goal.returns
returns c = spares_step
