use Rattle.clap.specs.Words.{found_of, rows_of}
use Rattle.filser.proofs.MatchedWords.{no_run, no_calls, no_put, no_get, no_delete}
use Rattle.filser.proofs.parse_request.task.Goals as goal

pub returns-in_err-moment-in-run : goal.returns-in_err-moment-in-run
returns-in_err-moment-in-run c =
    rw c.from_residual.ensures
    (no_run c.args.name.now (rows_of (found_of c.args.matches.now)) c.in-run.is c.in_err-moment-in-run.ensures)

pub returns-in_err-moment-in-calls : goal.returns-in_err-moment-in-calls
returns-in_err-moment-in-calls c =
    rw c.from_residual-in_err-moment-in-calls.ensures
    (no_calls c.args.name.now (rows_of (found_of c.args.matches.now)) c.in-calls.is c.in_err-moment-in-calls.ensures)

pub returns-in_err-file-in-put : goal.returns-in_err-file-in-put
returns-in_err-file-in-put c =
    rw c.from_residual-in_err-file-in-put.ensures
    (no_put c.args.name.now (rows_of (found_of c.args.matches.now)) c.in-put.is
    (λ f at named is. c.in_err-file-in-put.ensures f named))

pub returns-in_err-moment-in-put : goal.returns-in_err-moment-in-put
returns-in_err-moment-in-put c =
    rw c.from_residual-in_err-moment-in-put.ensures
    (no_put c.args.name.now (rows_of (found_of c.args.matches.now)) c.in-put.is
    (λ f at named is. c.in_err-moment-in-put.ensures at is))

pub returns-in_err-named-in-get : goal.returns-in_err-named-in-get
returns-in_err-named-in-get c =
    rw c.from_residual-in_err-named-in-get.ensures
    (no_get c.args.name.now (rows_of (found_of c.args.matches.now)) c.in-get.is
    (λ f at named is. c.in_err-named-in-get.ensures f named))

pub returns-in_err-moment-in-get : goal.returns-in_err-moment-in-get
returns-in_err-moment-in-get c =
    rw c.from_residual-in_err-moment-in-get.ensures
    (no_get c.args.name.now (rows_of (found_of c.args.matches.now)) c.in-get.is
    (λ f at named is. c.in_err-moment-in-get.ensures at is))

pub returns-in_err-owner-in-delete : goal.returns-in_err-owner-in-delete
returns-in_err-owner-in-delete c =
    rw c.from_residual-in_err-owner-in-delete.ensures
    (no_delete c.args.name.now (rows_of (found_of c.args.matches.now)) c.in-delete.is c.in_err-owner-in-delete.ensures)
