use Rattle.std.proofs.Common.{refl, subst, sym, arith}
use Rattle.std.proofs.lemmas.Result.{err_from_is_err_and}
use Rattle.std.proofs.KnownBytes.{Consumes-nil, Keeps-refl}
use Rattle.commands.proofs.SessionLaws.{reads_none}
use Rattle.wire.specs.Frames.{IsPart, IsTooLong}
use Rattle.exchange.specs.Exchanges.{IsNotWhole}
use Rattle.exchange.proofs.ServeLaws.{stream_starts, stream_more, stream_stops, stream_breaks, stream_ends}
use Rattle.exchange.proofs.ServeLaws.{nothing_held, rest_ends, rest_is_long}
use Rattle.exchange.proofs.wire_session.serve_wire.Goals as goal

pub loop-init : goal.loop-init
loop-init g c = record {
  stream = stream_starts g.S.FileService.machine g.met.S.FileService.stands _ _ c.args.service.now _
      c.new.ensures.items c.new-2.ensures.items c.none.ensures;
  part = nothing_held _ c.new.ensures.items;
}

pub returns-in_default : goal.returns-in_default
returns-in_default g c = stream_stops g.S.FileService.machine _ _ _ _ _ _ _ _ c.loop.invariant.stream
    c.loop.invariant.part c.in_default.ensures.bytes

pub returns-then-count-eq0 : goal.returns-then-count-eq0
returns-then-count-eq0 g c =
    let p = reads_none _ _ c.in-Ok.count c.read.new.buf c.if-count-eq0.true (omega arith) c.in-Ok.ensures.bytes in
    stream_ends g.S.FileService.machine _ _ _ _ _ _ _ _ _ _ c.loop.invariant.stream p.0
    (rest_ends _ _ p.1 c.loop.invariant.part) c.finish.ensures

pub returns-then-announces_too_much : goal.returns-then-announces_too_much
returns-then-announces_too_much g c = stream_ends g.S.FileService.machine _ _ _ _ _ _ _ _ _ _
    (stream_more g.S.FileService.machine _ _ _ _ _ _ _ _ _ _ _ _ c.loop.invariant.stream c.in-Ok.ensures.bytes.0
    c.in_ok-take_piece.ensures.ok) (Consumes-nil _)
    (rest_is_long _ _ (subst (λ bytes. IsTooLong bytes) c.deref.ensures.value
    (c.if-announces_too_much.ensures.yes refl))) c.finish-then-announces_too_much.ensures

pub loop-preserved : goal.loop-preserved
loop-preserved g c = record {
  stream = stream_more g.S.FileService.machine _ _ _ _ _ _ _ _ _ _ _ _ c.loop.invariant.stream
      c.in-Ok.ensures.bytes.0 c.in_ok-take_piece.ensures.ok;
  part = subst (λ bytes. IsPart bytes) c.deref.ensures.value (c.if-announces_too_much.ensures.no refl
      (subst (λ bytes. IsNotWhole bytes) (sym c.deref.ensures.value) c.in_ok-take_piece.ensures.ok.rest));
}

pub returns : goal.returns
returns g c = stream_stops g.S.FileService.machine _ _ _ _ _ _ _ _ c.loop.invariant.stream c.loop.invariant.part
    (Keeps-refl _)

pub returns-in_err-take_piece : goal.returns-in_err-take_piece
returns-in_err-take_piece g c =
    let p = err_from_is_err_and c.from_residual.result c.from_residual.ensures.1 in
    rw (p.1, p.2) (stream_breaks g.S.FileService.machine _ _ _ _ _ _ _ _ _ _ _ _ c.loop.invariant.stream
    c.in-Ok.ensures.bytes.0 c.in_err-take_piece.ensures.err)
