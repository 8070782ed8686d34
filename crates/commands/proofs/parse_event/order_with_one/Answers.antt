use Rattle.commands.proofs.EventTextLaws.{is_it, examine_said}
use Rattle.commands.proofs.parse_event.order_with_one.Goals as goal

pub returns-then-is_word : goal.returns-then-is_word
returns-then-is_word c = λ field place. examine_said field c.args.word.now _ c.args.moment c.args.job
    c.in_ok-number.number place c.in_ok-number.ensures.some (is_it _ _ _ c.is_word.ensures c.if-is_word.true)
