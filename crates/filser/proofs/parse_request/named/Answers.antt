use Rattle.clap.specs.Words.{found_of, rows_of}
use Rattle.filser.proofs.MatchedWords.{no_named, no_encoding}
use Rattle.filser.proofs.parse_request.named.Goals as goal

pub returns-in_err-owner : goal.returns-in_err-owner
returns-in_err-owner c =
    rw c.from_residual.ensures (no_named (rows_of (found_of c.args.matches.now)) c.in_err-owner.ensures)

pub returns-in_err-encoding : goal.returns-in_err-encoding
returns-in_err-encoding c =
    rw c.from_residual-in_err-encoding.ensures
    (no_encoding (rows_of (found_of c.args.matches.now)) c.in_err-encoding.ensures)
