use Rattle.wire.specs.Frames.{IsPart}
use Rattle.exchange.proofs.ServeLaws.{InStream}
use Rattle.exchange.proofs.wire_session.serve_wire.Given as goal

abbrev pub invariant-loop : goal.invariant-loop
invariant-loop g l = record {
  stream : InStream (g.R.Read.remaining l.fn.reader) (g.R.Read.remaining l.reader)
      (g.W.Write.contents l.fn.writer) (g.W.Write.contents l.writer) g.S.FileService.machine l.fn.service l.service
      l.waiting;
  part : IsPart l.waiting.held.items;
}
