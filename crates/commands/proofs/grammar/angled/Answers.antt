use Rattle.commands.proofs.MadeLaws.{none_in_angles}
use Rattle.commands.proofs.grammar.angled.Goals as goal

pub returns-clause-none : goal.returns-clause-none
returns-clause-none c = none_in_angles c.small_number.result c.args.text.now _ c.in_ok-between.ensures.some
    c.small_number.ensures.none
