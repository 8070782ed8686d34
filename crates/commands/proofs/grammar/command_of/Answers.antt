use Rattle.commands.proofs.SpokenLaws.{differ, says_no_fields}
use Rattle.commands.proofs.grammar.command_of.Goals as goal

pub returns-in_err-word : goal.returns-in_err-word
returns-in_err-word c = says_no_fields c.args.text.now _ c.from_residual.ensures
    (differ _ _ _ _ c.eq.ensures c.as_slice.ensures c.if-eq.false) c.in_default.ensures.none c.in_err-word.ensures.none

pub returns : goal.returns
returns c = c.command_with.ensures c.args.text.now c.in_ok-word.ensures.some
