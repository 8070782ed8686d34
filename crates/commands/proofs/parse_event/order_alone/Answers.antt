use Rattle.commands.proofs.EventTextLaws.{is_it, reset_said}
use Rattle.commands.proofs.parse_event.order_alone.Goals as goal

pub returns-then-is_word : goal.returns-then-is_word
returns-then-is_word c = λ field place. reset_said field c.args.word.now c.args.moment c.args.job place
    (is_it _ _ _ c.is_word.ensures c.if-is_word.true)
