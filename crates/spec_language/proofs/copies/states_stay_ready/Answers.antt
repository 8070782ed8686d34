use Rattle.spec_language.proofs.ShortLaws.{bodies_stay_short}
use Rattle.spec_language.proofs.ErrandRuns.{logins_make_ready}
use Rattle.spec_language.proofs.ReadyLaws.{ready_stays}
use Rattle.spec_language.proofs.copies.states_stay_ready.Goals as goal

pub returns-clause-short : goal.returns-clause-short
returns-clause-short c = bodies_stay_short

pub returns-clause-logged_in : goal.returns-clause-logged_in
returns-clause-logged_in c = logins_make_ready

pub returns-clause-on : goal.returns-clause-on
returns-clause-on c = ready_stays
