use Rattle.spec_language.proofs.CauseLaws.{lines_go_on, reads_go_on, puts_go_on, gets_go_on}
use Rattle.spec_language.proofs.causes.plans_go_on.Goals as goal

pub returns-clause-lines : goal.returns-clause-lines
returns-clause-lines c = lines_go_on

pub returns-clause-reads : goal.returns-clause-reads
returns-clause-reads c = reads_go_on

pub returns-clause-puts : goal.returns-clause-puts
returns-clause-puts c = puts_go_on

pub returns-clause-gets : goal.returns-clause-gets
returns-clause-gets c = gets_go_on
