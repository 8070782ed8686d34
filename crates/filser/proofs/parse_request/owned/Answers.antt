use Rattle.std.proofs.Common.{◌∙◌, Some, ap, sym}
use Rattle.clap.specs.Words.{found_of, rows_of}
use Rattle.filser.proofs.MatchedWords.{no_name, no_owned}
use Rattle.filser.proofs.parse_request.owned.Goals as goal

pub returns-in_err-owner : goal.returns-in_err-owner
returns-in_err-owner c =
    rw c.from_residual.ensures (no_owned (rows_of (found_of c.args.matches.now)) c.in_err-owner.ensures)

pub returns-in_err-name : goal.returns-in_err-name
returns-in_err-name c =
    rw c.from_residual-in_err-name.ensures
    (no_name (rows_of (found_of c.args.matches.now)) c.as_bytes.result.now
    (c.in_ok-text.ensures ∙ ap Some (sym c.as_bytes.ensures.value)) c.in_err-name.ensures.none)
