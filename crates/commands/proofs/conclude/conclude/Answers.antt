use Rattle.spec_language.specs.Common.{ok, refuses}
use Rattle.commands.proofs.AnswerLaws.{concludes_ok, concludes_refusal}
use Rattle.commands.proofs.conclude.conclude.Goals as goal

pub returns-in-Ok : goal.returns-in-Ok
returns-in-Ok g c = rw c.in-Ok.is (concludes_ok g.S.FileService.machine g.met.S.FileService.stands
    (λ bytes. bytes.items) c.line.result c.args.moment c.args.tally.now _ _ (c.reset.ensures ok) c.line.ensures)

pub returns-in-Err : goal.returns-in-Err
returns-in-Err g c = rw c.in-Err.is (concludes_refusal g.S.FileService.machine g.met.S.FileService.stands
    (λ bytes. bytes.items) c.refuse.result c.args.moment c.args.tally.now c.refuse.new.tally _ _ c.in-Err.reply
    c.refusal.result.now c.is_broken.result
    (c.reset.ensures (refuses c.in-Err.reply)) c.refusal.ensures c.is_broken.ensures c.refuse.ensures.refused
    c.refuse.ensures.broke c.refuse.ensures.reason c.refuse.ensures.text)
