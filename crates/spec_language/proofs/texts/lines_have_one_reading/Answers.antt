use Rattle.spec_language.proofs.CommandLaws.{same_command}
use Rattle.spec_language.proofs.ScriptLaws.{same_event}
use Rattle.spec_language.proofs.texts.lines_have_one_reading.Goals as goal

pub returns-clause-session : goal.returns-clause-session
returns-clause-session c = same_command

pub returns-clause-script : goal.returns-clause-script
returns-clause-script c = same_event
