use Rattle.spec_machine.proofs.RunLaws.{run-push}
use Rattle.spec_machine.proofs.machine.runs_go_on.Goals as goal

pub returns : goal.returns
returns c = run-push
