use Rattle.std.proofs.Common.{refl}
use Rattle.commands.proofs.StepLaws.{steps_flushed, steps_unwritten}
use Rattle.commands.proofs.run.take_piece.Goals as goal

pub returns-clause-ok : goal.returns-clause-ok
returns-clause-ok g c = steps_flushed c.args.language g.S.FileService.machine _ _ _
    (g.W.Write.contents c.take_bytes.new.writer) _ c.args.moment c.args.session.now c.take_bytes.new.session
    (record c.take_bytes.new.session { waiting = c.flush.new.waiting }) c.flush.result c.args.piece.now refl refl refl
    refl
    c.in_ok-take_bytes.ensures.ok c.flush.ensures.written

pub returns-clause-err : goal.returns-clause-err
returns-clause-err g c = steps_unwritten c.args.language g.S.FileService.machine _ _ _
    (g.W.Write.contents c.take_bytes.new.writer) _ c.args.moment c.args.session.now c.take_bytes.new.session
    c.flush.new.waiting.items c.flush.result c.args.piece.now c.in_ok-take_bytes.ensures.ok c.flush.ensures.written
