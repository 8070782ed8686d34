use Rattle.std.proofs.Common.{subst, sym, ◌∙◌}
use Rattle.wire.specs.Frames.{Framed, frame_bytes}
use Rattle.exchange.specs.Exchanges.{BreaksOff, IsGivenUp}
use Rattle.exchange.proofs.StreamLaws.{breaks_here, record_breaks, frame_some}
use Rattle.exchange.proofs.reply_buffer.serve_record.Goals as goal

pub returns-in-Ok-clause-err : goal.returns-in-Ok-clause-err
returns-in-Ok-clause-err g c = record_breaks g.S.FileService.machine c.args.service.now c.take_turn.new.service
    (g.W.Write.contents c.args.writer.now) (g.W.Write.contents c.flush_full.new.writer)
    (record { header = c.args.header.now; body = c.args.body.now }) c.args.answers.now.items
    c.take_turn.new.answers.items c.flush_full.new.answers.items c.args.tally.now c.take_turn.new.tally
    c.flush_full.result c.in-Ok.ensures.ok c.flush_full.ensures

pub returns-in-Err-clause-err : goal.returns-in-Err-clause-err
returns-in-Err-clause-err g c =
    let sink = g.W.Write.contents c.args.writer.now in
    let full = g.W.Write.contents c.give_up.new.writer in
    let frame : Framed = record { header = c.args.header.now; body = c.args.body.now } in
    subst (λ s. BreaksOff g.S.FileService.machine c.args.service.now s sink full c.args.answers.now.items
    c.give_up.result (frame_bytes frame)) (sym c.in-Err.ensures.undone)
    (breaks_here g.S.FileService.machine g.met.S.FileService.stands c.args.service.now sink full
    c.args.answers.now.items c.give_up.result (frame_bytes frame) (frame_some frame)
    (subst (λ items. IsGivenUp sink full items c.give_up.result)
    (c.deref.ensures.value ∙ c.in-Err.ensures.unanswered) c.give_up.ensures))
