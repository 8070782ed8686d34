use Rattle.spec_language.proofs.CauseLaws.{line_refusals, read_refusals, put_refusals, get_refusals}
use Rattle.spec_language.proofs.ToldLaws.{tellings_have_causes}
use Rattle.spec_language.proofs.causes.refusals_have_causes.Goals as goal

pub returns-clause-lines : goal.returns-clause-lines
returns-clause-lines c = line_refusals

pub returns-clause-reads : goal.returns-clause-reads
returns-clause-reads c = read_refusals

pub returns-clause-puts : goal.returns-clause-puts
returns-clause-puts c = put_refusals

pub returns-clause-gets : goal.returns-clause-gets
returns-clause-gets c = get_refusals

pub returns-clause-tells : goal.returns-clause-tells
returns-clause-tells c = tellings_have_causes
