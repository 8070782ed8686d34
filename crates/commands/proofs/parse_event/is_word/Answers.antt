use Rattle.commands.proofs.EventTextLaws.{word_is}
use Rattle.commands.proofs.parse_event.is_word.Goals as goal

pub returns : goal.returns
returns c = word_is c.eq.result c.args.text.now _ _ c.eq.ensures c.as_bytes.ensures.value
