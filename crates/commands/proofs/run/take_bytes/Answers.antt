use Rattle.std.proofs.Common.{arith}
use Rattle.std.proofs.lemmas.Result.{err_from_is_err_and}
use Rattle.commands.proofs.StepLaws.{steps_none, steps_at, breaks_at, steps_all}
use Rattle.commands.proofs.run.take_bytes.Goals as goal

pub loop-byte-init : goal.loop-byte-init
loop-byte-init g c = steps_none c.args.language g.S.FileService.machine g.met.S.FileService.stands _ _
    c.args.moment c.args.session.now

pub loop-byte-preserved : goal.loop-byte-preserved
loop-byte-preserved g c = steps_at c.args.language g.S.FileService.machine _ _ _ _ _ _ _ _ _ _ c.args.piece.now
    c.loop-byte.byte-index c.loop-byte-test.true c.loop-byte.invariant c.in_ok-take_byte.ensures.ok

pub returns-clause-ok : goal.returns-clause-ok
returns-clause-ok g c = steps_all c.args.language g.S.FileService.machine _ _ _ _ _ _ _ c.args.piece.now
    c.loop-byte.byte-index (omega arith) c.loop-byte.invariant

pub returns-in_err-take_byte-clause-err : goal.returns-in_err-take_byte-clause-err
returns-in_err-take_byte-clause-err g c =
    let p = err_from_is_err_and c.from_residual.result c.from_residual.ensures.1 in
    rw (p.1, p.2) (breaks_at c.args.language g.S.FileService.machine _ _ _ _ _ _ _ _ _ _ c.args.piece.now
    c.loop-byte.byte-index c.loop-byte-test.true c.loop-byte.invariant c.in_err-take_byte.ensures.err)
