use Rattle.std.proofs.Common.{sym, ◌∙◌}
use Rattle.commands.proofs.InputLaws.{begins_none}
use Rattle.commands.proofs.input_words.is_hopeless.Goals as goal

pub returns-in-Characters : goal.returns-in-Characters
returns-in-Characters c = λ yes. rw c.in-Characters.is (begins_none c.args.piece.now
    (c.first_misfit.ensures.refused (sym c.is_some.ensures ∙ yes)))
