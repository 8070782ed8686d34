use Rattle.monitor.proofs.CoreAreas.States.{step_changes, answer_changes}
use Rattle.monitor.proofs.changed_laws.calls_change_their_areas.Goals as goal

pub returns-clause-stepped : goal.returns-clause-stepped
returns-clause-stepped c = step_changes

pub returns-clause-answered : goal.returns-clause-answered
returns-clause-answered c = answer_changes
