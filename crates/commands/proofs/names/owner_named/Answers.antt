use Rattle.commands.proofs.NameLaws.{no_owner}
use Rattle.commands.proofs.names.owner_named.Goals as goal

pub returns-in-None-clause-none : goal.returns-in-None-clause-none
returns-in-None-clause-none c = no_owner c.bracketed.result c.args.text.now c.in-None.ensures.none
    c.bracketed.ensures.none
