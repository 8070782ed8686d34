use Rattle.commands.proofs.LineLaws.{return_dropped, return_kept}
use Rattle.commands.proofs.input.without_return.Goals as goal

pub returns-in-Some : goal.returns-in-Some
returns-in-Some c = return_dropped c.args.text.now c.in-Some.front.now c.in-Some.last.now c.in-Some.ensures.cases.0
    c.if-last-eq13.true

pub returns-in_default : goal.returns-in_default
returns-in_default c = return_kept c.args.text.now c.in-Some.front.now c.in-Some.last.now c.in-Some.ensures.cases.0
    c.if-last-eq13.false
