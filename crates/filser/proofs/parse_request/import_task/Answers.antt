use Rattle.clap.specs.Words.{found_of, rows_of}
use Rattle.filser.proofs.MatchedWords.{no_directory, no_moment, no_one_encoding}
use Rattle.filser.proofs.parse_request.import_task.Goals as goal

pub returns-in_err-owner : goal.returns-in_err-owner
returns-in_err-owner c =
    rw c.from_residual.ensures (no_directory (rows_of (found_of c.args.matches.now)) c.in_err-owner.ensures)

pub returns-in_err-encoding : goal.returns-in_err-encoding
returns-in_err-encoding c =
    rw c.from_residual-in_err-encoding.ensures
    (no_one_encoding (rows_of (found_of c.args.matches.now)) c.in_err-encoding.ensures)

pub returns-in_err-moment : goal.returns-in_err-moment
returns-in_err-moment c =
    rw c.from_residual-in_err-moment.ensures (no_moment (rows_of (found_of c.args.matches.now)) c.in_err-moment.ensures)
