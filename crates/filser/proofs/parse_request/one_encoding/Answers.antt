use Rattle.clap.specs.Words.{found_of, rows_of}
use Rattle.filser.proofs.MatchedWords.{one_asked}
use Rattle.filser.proofs.parse_request.one_encoding.Goals as goal

pub returns-in-None : goal.returns-in-None
returns-in-None c =
    one_asked (rows_of (found_of c.args.matches.now)) c.first_encoding.result c.first_encoding.ensures.some
    c.first_encoding.ensures.none c.in-None.ensures.none
