use Rattle.std.proofs.lemmas.Result.{err_from_is_err_and}
use Rattle.exchange.proofs.StreamLaws.{whole_unwritten}
use Rattle.exchange.proofs.reply_buffer.answer_whole.Goals as goal

pub returns-in_err-flush-clause-err : goal.returns-in_err-flush-clause-err
returns-in_err-flush-clause-err g c =
    let p = err_from_is_err_and c.from_residual-in_err-flush.result c.from_residual-in_err-flush.ensures.1 in
    rw (p.1, p.2) (whole_unwritten g.S.FileService.machine c.args.service.now c.serve_whole.new.service
    (g.W.Write.contents c.args.writer.now) (g.W.Write.contents c.serve_whole.new.writer)
    (g.W.Write.contents c.flush.new.writer) c.args.answers.now.items c.serve_whole.new.answers.items
    c.flush.new.answers.items c.args.tally.now c.serve_whole.new.tally c.in_err-flush.field-0.0 c.in_ok-place.place
    c.args.held.now c.in_ok-place.ensures.ok c.in_err-flush.ensures.written)
