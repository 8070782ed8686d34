use Rattle.std.proofs.Common.{refl, arith}
use Rattle.std.proofs.lemmas.Result.{err_from_is_err_and}
use Rattle.std.proofs.KnownBytes.{Keeps-refl}
use Rattle.commands.proofs.SessionLaws.{stream_starts, stream_more, stream_stops, stream_breaks, stream_ends}
use Rattle.commands.proofs.SessionLaws.{reads_none}
use Rattle.commands.proofs.run.serve_lines.Goals as goal

pub loop-init : goal.loop-init
loop-init g c = stream_starts c.args.language g.S.FileService.machine g.met.S.FileService.stands _ _ _
    c.args.moment _ c.new.ensures refl refl c.none.ensures c.new-2.ensures.items

pub returns-in_default : goal.returns-in_default
returns-in_default g c = stream_stops c.args.language g.S.FileService.machine _ _ _ _ _ _ _ c.args.moment
    _ c.loop.invariant c.in_default.ensures.bytes

pub returns-then-count-eq0 : goal.returns-then-count-eq0
returns-then-count-eq0 g c =
    let p = reads_none _ _ c.in-Ok.count c.read.new.buf c.if-count-eq0.true (omega arith) c.in-Ok.ensures.bytes in
    stream_ends c.args.language g.S.FileService.machine _ _ _ _ _ _ _ _ _ c.args.moment _ c.finish.result
    c.loop.invariant p.0 p.1 c.finish.ensures.ok c.finish.ensures.err

pub loop-preserved : goal.loop-preserved
loop-preserved g c = stream_more c.args.language g.S.FileService.machine _ _ _ _ _ _ _ _ _ c.args.moment
    _ _ _ c.loop.invariant c.in-Ok.ensures.bytes.0 c.in_ok-take_piece.ensures.ok c.in_ok-take_piece.ensures.written

pub returns : goal.returns
returns g c = stream_stops c.args.language g.S.FileService.machine _ _ _ _ _ _ _ c.args.moment _ c.loop.invariant
    (Keeps-refl _)

pub returns-in_err-take_piece : goal.returns-in_err-take_piece
returns-in_err-take_piece g c =
    let p = err_from_is_err_and c.from_residual.result c.from_residual.ensures.1 in
    rw (p.1, p.2) (stream_breaks c.args.language g.S.FileService.machine ⊥ _ _ _ _ _ _ _ _ _ c.args.moment _ _ _
    (λ w. absurd w) c.loop.invariant c.in-Ok.ensures.bytes.0 c.in_err-take_piece.ensures.err)
