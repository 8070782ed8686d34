use Rattle.std.proofs.Common.{◌∙◌, Some, ap, sym}
use Rattle.clap.specs.Words.{found_of, rows_of}
use Rattle.filser.proofs.MatchedWords.{has_owner}
use Rattle.filser.proofs.parse_request.directory.Goals as goal

pub returns : goal.returns
returns c = has_owner (rows_of (found_of c.args.matches.now)) c.as_bytes.result.now c.owner_named.result
    (c.in_ok-text.ensures ∙ ap Some (sym c.as_bytes.ensures.value)) c.owner_named.ensures.some
    c.owner_named.ensures.none
