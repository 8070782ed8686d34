use Rattle.std.proofs.Common.{arith}
use Rattle.commands.proofs.MadeLaws.{no_protection}
use Rattle.commands.proofs.grammar.protection.Goals as goal

pub returns-clause-none : goal.returns-clause-none
returns-clause-none c = no_protection c.angled.result c.args.text.now (grind arith) c.angled.ensures.none
