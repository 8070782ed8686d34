use Rattle.std.proofs.Common.{◌∙◌, Some, ap, sym}
use Rattle.clap.specs.Words.{found_of, rows_of}
use Rattle.filser.proofs.MatchedWords.{no_place}
use Rattle.filser.proofs.parse_request.place.Goals as goal

pub returns-in_err-owner_named-in-Some : goal.returns-in_err-owner_named-in-Some
returns-in_err-owner_named-in-Some c =
    rw c.from_residual.ensures
    (no_place (rows_of (found_of c.args.matches.now)) c.as_bytes.result.now
    (c.in-Some.ensures ∙ ap Some (sym c.as_bytes.ensures.value)) c.in_err-owner_named-in-Some.ensures.none)
