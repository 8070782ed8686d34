use Rattle.std.proofs.lemmas.Result.{err_from_is_err_and}
use Rattle.spec_language.specs.Common.{Say, refuses}
use Rattle.commands.proofs.ErrandLaws.{carried, errand_done, errand_cut, refused_reply}
use Rattle.commands.proofs.transfer.write_refusal.Goals as goal

pub returns-in_err-print : goal.returns-in_err-print
returns-in_err-print g c =
    let p = err_from_is_err_and c.from_residual.result c.from_residual.ensures.1 in
    rw (p.1, p.2) (errand_cut g.S.FileService.machine (λ bytes. bytes.items) c.refuse-text.result _ _ _ _
    (Say (refuses c.args.reply.now)) c.refuse-text.new.tally c.in_err-print.field-0.0
    (carried g.S.FileService.machine (λ bytes. bytes.items) c.refuse-text.result _ _
    (Say (refuses c.args.reply.now)) c.none-tally.result c.refuse-text.new.tally c.none-tally.ensures
    (refused_reply g.S.FileService.machine g.met.S.FileService.stands (λ bytes. bytes.items) c.refuse-text.result _
    c.none-tally.result c.refuse-text.new.tally c.args.reply.now c.refusal.result.now c.is_broken.result
    c.refusal.ensures c.is_broken.ensures c.refuse-text.ensures.refused c.refuse-text.ensures.broke
    c.refuse-text.ensures.reason c.refuse-text.ensures.text)) c.in_err-print.ensures)

pub returns : goal.returns
returns g c =
    errand_done g.S.FileService.machine (λ bytes. bytes.items) c.refuse-text.result _ _ _ _
    (Say (refuses c.args.reply.now)) c.refuse-text.new.tally tt
    (carried g.S.FileService.machine (λ bytes. bytes.items) c.refuse-text.result _ _
    (Say (refuses c.args.reply.now)) c.none-tally.result c.refuse-text.new.tally c.none-tally.ensures
    (refused_reply g.S.FileService.machine g.met.S.FileService.stands (λ bytes. bytes.items) c.refuse-text.result _
    c.none-tally.result c.refuse-text.new.tally c.args.reply.now c.refusal.result.now c.is_broken.result
    c.refusal.ensures c.is_broken.ensures c.refuse-text.ensures.refused c.refuse-text.ensures.broke
    c.refuse-text.ensures.reason c.refuse-text.ensures.text)) c.in_ok-print.ensures
