use Rattle.std.proofs.Common.{refl}
use Rattle.commands.proofs.EventRunLaws.{replied_wrong, replied_to}
use Rattle.commands.proofs.run_event.run_event.Goals as goal

pub returns-in_default : goal.returns-in_default
returns-in_default g c = λ moment user. replied_wrong g.S.FileService.machine g.met.S.FileService.stands
    (λ bytes. bytes.items) c.line.result moment user c.args.tally.now _ c.args.order c.args.service.now
    c.in_default.is refl refl c.line.ensures

pub returns : goal.returns
returns g c = λ moment user. replied_to g.S.FileService.machine g.met.S.FileService.stands
    (λ bytes. bytes.items) c.reply_line.result moment user c.args.tally.now c.count.new.tally c.args.order
    c.args.service.now c.event-reply.new.self
    c.in-Some.event c.event-reply.result c.in-Some.is c.event-reply.ensures c.count.ensures.refused
    c.count.ensures.broke c.reply_line.ensures
