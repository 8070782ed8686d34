use Rattle.std.proofs.Common.{sym, ap, drop, ◌∙◌}
use Rattle.exchange.proofs.ServeLaws.{piece_taken, piece_refused}
use Rattle.exchange.proofs.wire_session.take_piece.Goals as goal

pub returns-in_default-clause-err : goal.returns-in_default-clause-err
returns-in_default-clause-err g c = piece_refused g.S.FileService.machine g.met.S.FileService.stands
    c.args.service.now (g.W.Write.contents c.args.writer.now) c.args.waiting.now.held.items c.args.piece.now
    c.requires.piece

pub returns-clause-ok : goal.returns-clause-ok
returns-clause-ok g c = piece_taken g.S.FileService.machine c.args.service.now c.answer_whole.new.service
    (g.W.Write.contents c.args.writer.now) (g.W.Write.contents c.answer_whole.new.writer) c.args.waiting.now
    (record { held = c.remove_first.new.bytes; answers = c.answer_whole.new.answers; tally = c.answer_whole.new.tally })
    c.args.piece.now c.deref.result.now c.in_ok-place.place
    (sym (c.deref.ensures.value ∙ c.in-Ok.ensures.items)) c.requires.written c.in_ok-place.ensures.ok
    c.in_ok-place.ensures.rest (c.remove_first.ensures ∙ ap (drop c.in_ok-place.place) (sym c.deref.ensures.value))
    c.in_ok-place.ensures.written
