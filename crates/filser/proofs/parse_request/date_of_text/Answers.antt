use Rattle.filser.proofs.MatchedWords.{says_day}
use Rattle.filser.proofs.parse_request.date_of_text.Goals as goal

pub returns-in-None : goal.returns-in-None
returns-in-None c = says_day c.date_named.result c.args.text.now c.as_bytes.result.now c.as_bytes.ensures.value
    c.date_named.ensures.some c.date_named.ensures.none c.in-None.ensures
