use Rattle.monitor.proofs.Events.Starts.{a_start}
use Rattle.monitor.proofs.laws.files_have_a_start.Goals as goal

pub returns : goal.returns
returns c = a_start
