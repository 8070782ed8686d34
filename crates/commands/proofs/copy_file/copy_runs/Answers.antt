use Rattle.std.proofs.Common.{◌∷◌, [], arith}
use Rattle.std.proofs.lemmas.Result.{err_from_is_err_and}
use Rattle.commands.proofs.CopyFileLaws.{runs_none, runs_more, runs_fail, runs_all}
use Rattle.commands.proofs.copy_file.copy_runs.Goals as goal

pub loop-init : goal.loop-init
loop-init g c next = runs_none g.S.FileService.machine g.met.S.FileService.stands _ c.args.moment c.args.runs next

pub loop-preserved : goal.loop-preserved
loop-preserved g c = runs_more g.S.FileService.machine _ _ _ c.args.moment c.args.runs c.loop.counter
    (c.in_event.result ∷ c.out_event.result ∷ []) (λ i. c.in_event.ensures i ∷ c.out_event.ensures i
    ∷ []) c.loop-test.true c.loop.invariant
    (c.in_ok-ask_all.ensures c.args.moment)

pub returns-in_err-ask_all : goal.returns-in_err-ask_all
returns-in_err-ask_all g c =
    let p = err_from_is_err_and c.from_residual.result c.from_residual.ensures.1 in
    rw (p.1, p.2) (runs_fail g.S.FileService.machine _ _ _ c.args.moment c.args.runs c.loop.counter
    (c.in_event.result ∷ c.out_event.result ∷ []) (λ i. c.in_event.ensures i ∷ c.out_event.ensures i
    ∷ []) c.loop-test.true c.loop.invariant
    c.in_err-ask_all.field-0.0 (c.in_err-ask_all.ensures c.args.moment))

pub returns : goal.returns
returns g c = runs_all g.S.FileService.machine _ _ c.args.moment c.args.runs c.loop.counter
    (omega arith) c.loop.invariant
