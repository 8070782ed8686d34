use Rattle.spec_machine.proofs.SerialRuns.{runs_alike}
use Rattle.spec_machine.proofs.machine.runs_tell_no_serials.Goals as goal

pub returns : goal.returns
returns c = runs_alike
