use Rattle.std.proofs.Common.{subst}
use Rattle.commands.specs.Common.{IsGivenUp}
use Rattle.commands.proofs.OutputLaws.{adds_unmade}
use Rattle.commands.proofs.output_buffer.say.Goals as goal

pub returns-in-Err : goal.returns-in-Err
returns-in-Err g c = λ said is. adds_unmade (g.W.Write.contents c.args.writer.now)
    (g.W.Write.contents c.give_up.new.writer) c.give_up.result c.args.waiting.now.items c.args.waiting.now.items said
    (subst (λ items. IsGivenUp (g.W.Write.contents c.args.writer.now) (g.W.Write.contents c.give_up.new.writer) items
    c.give_up.result) c.deref-in-Err.ensures.value c.give_up.ensures)
