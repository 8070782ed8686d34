use Rattle.commands.proofs.NumberLaws.{bracketed_none}
use Rattle.commands.proofs.grammar.bracketed.Goals as goal

pub returns-clause-none : goal.returns-clause-none
returns-clause-none c = bracketed_none c.pair.result c.args.text.now _ c.in_ok-between.ensures.some c.pair.ensures.none
