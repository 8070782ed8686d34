use Rattle.clap.specs.Words.{found_of, rows_of}
use Rattle.filser.proofs.MatchedWords.{no_init, no_layout}
use Rattle.filser.proofs.parse_request.other_than_import.Goals as goal

pub returns-in_err-blocks-in-init : goal.returns-in_err-blocks-in-init
returns-in_err-blocks-in-init c =
    rw c.from_residual-in_err-blocks-in-init.ensures
    (no_init c.args.name.now (rows_of (found_of c.args.matches.now)) c.in-init.is c.in_err-blocks-in-init.ensures)

pub returns-in_err-layout-in-init : goal.returns-in_err-layout-in-init
returns-in_err-layout-in-init c =
    rw c.from_residual-in_err-layout-in-init.ensures
    (no_layout c.args.name.now (rows_of (found_of c.args.matches.now)) c.in-init.is c.in_err-layout-in-init.ensures)
