use Rattle.clap.specs.Words.{found_of, rows_of}
use Rattle.filser.proofs.MatchedWords.{has_date}
use Rattle.filser.proofs.parse_request.date.Goals as goal

pub returns : goal.returns
returns c = has_date (rows_of (found_of c.args.matches.now)) c.in_ok-text.field-0.now c.date_of_text.result
    c.in_ok-text.ensures c.date_of_text.ensures
