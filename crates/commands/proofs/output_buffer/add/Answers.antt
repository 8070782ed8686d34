use Rattle.std.proofs.lemmas.Result.{err_from_is_err_and}
use Rattle.commands.proofs.OutputLaws.{adds_nothing, adds_at_once}
use Rattle.commands.proofs.output_buffer.add.Goals as goal

pub returns-in_err-flush : goal.returns-in_err-flush
returns-in_err-flush g c =
    let p = err_from_is_err_and c.from_residual.result c.from_residual.ensures.1 in
    rw (p.1, p.2) (adds_nothing (g.W.Write.contents c.args.writer.now) (g.W.Write.contents c.flush.new.writer)
    c.in_err-flush.field-0.0 c.args.waiting.now.items c.keep.new.waiting.items c.flush.new.waiting.items
    c.args.text.now (c.keep.ensures.no c.if-keep.false) c.in_err-flush.ensures.written)

pub returns : goal.returns
returns g c = adds_at_once (g.W.Write.contents c.args.writer.now) (g.W.Write.contents c.flush.new.writer)
    (g.W.Write.contents c.write_text.new.writer) c.write_text.result c.args.waiting.now.items
    c.keep.new.waiting.items c.flush.new.waiting.items c.args.text.now (c.keep.ensures.no c.if-keep.false)
    c.in_ok-flush.ensures.written c.in_ok-flush.ensures.all c.write_text.ensures.ok c.write_text.ensures.err
