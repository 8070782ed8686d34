use Rattle.spec_machine.proofs.StepLaws.{keeps_step}
use Rattle.spec_machine.proofs.UndoneLaws.{step_leaves, keeps_room}
use Rattle.spec_machine.proofs.machine.undone_changes_nothing.Goals as goal

pub returns-clause-left : goal.returns-clause-left
returns-clause-left c = step_leaves

pub returns-clause-files : goal.returns-clause-files
returns-clause-files c = keeps_step

pub returns-clause-room : goal.returns-clause-room
returns-clause-room c = keeps_room
