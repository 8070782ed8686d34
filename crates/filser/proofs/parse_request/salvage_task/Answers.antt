use Rattle.clap.specs.Words.{found_of, rows_of}
use Rattle.filser.proofs.MatchedWords.{no_search}
use Rattle.filser.proofs.parse_request.salvage_task.Goals as goal

pub returns-in_err-search : goal.returns-in_err-search
returns-in_err-search c =
    rw c.from_residual.ensures (no_search (rows_of (found_of c.args.matches.now)) c.in_err-search.ensures)
