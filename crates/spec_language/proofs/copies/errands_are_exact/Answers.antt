use Rattle.spec_language.proofs.ErrandRuns.{puts_are_exact, gets_are_exact}
use Rattle.spec_language.proofs.copies.errands_are_exact.Goals as goal

pub returns-clause-puts : goal.returns-clause-puts
returns-clause-puts c = puts_are_exact

pub returns-clause-gets : goal.returns-clause-gets
returns-clause-gets c = gets_are_exact
