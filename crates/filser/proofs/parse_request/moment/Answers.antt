use Rattle.clap.specs.Words.{found_of, rows_of}
use Rattle.filser.proofs.MatchedWords.{no_date, no_minute}
use Rattle.filser.proofs.parse_request.moment.Goals as goal

pub returns-in_err-date : goal.returns-in_err-date
returns-in_err-date c = rw c.from_residual.ensures (no_date (rows_of (found_of c.args.matches.now))
    c.in_err-date.ensures)

pub returns-in_err-minute : goal.returns-in_err-minute
returns-in_err-minute c =
    rw c.from_residual-in_err-minute.ensures
    (no_minute (rows_of (found_of c.args.matches.now)) c.in_err-minute.ensures)
