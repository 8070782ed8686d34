use Rattle.commands.proofs.AnswerLaws.{spoke_login, spoke_login_refused}
use Rattle.commands.proofs.answer.log_in.Goals as goal

pub returns-in-Done : goal.returns-in-Done
returns-in-Done g c = spoke_login g.S.FileService.machine g.met.S.FileService.stands
    (λ bytes. bytes.items) c.greeting.result c.args.moment c.args.tally.now _ _ c.args.user.now c.args.owner
    c.event-reply.result c.in-Done.is c.event-reply.ensures c.greeting.ensures

pub returns-in_default : goal.returns-in_default
returns-in_default g c = spoke_login_refused g.S.FileService.machine g.met.S.FileService.stands
    (λ bytes. bytes.items) c.refuse.result c.args.moment c.args.tally.now c.refuse.new.tally _ _ c.args.user.now
    c.args.owner c.event-reply.result c.refusal.result.now c.is_broken.result
    c.in_default.not-Done c.event-reply.ensures c.refusal.ensures c.is_broken.ensures c.refuse.ensures.refused
    c.refuse.ensures.broke c.refuse.ensures.text
