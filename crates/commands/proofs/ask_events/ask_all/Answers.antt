use Rattle.std.proofs.Common.{arith}
use Rattle.commands.proofs.LedLaws.{done_none, done_more, asked_until, asked_all}
use Rattle.commands.proofs.ask_events.ask_all.Goals as goal

pub loop-event-init : goal.loop-event-init
loop-event-init g c = done_none g.S.FileService.machine g.met.S.FileService.stands _

pub loop-event-preserved : goal.loop-event-preserved
loop-event-preserved g c = done_more g.S.FileService.machine g.met.S.FileService.stands _ _ _ c.args.events.now
    c.loop-event.event-index c.event-item.result c.event-reply.result c.loop-event-test.true c.event-item.is
    c.loop-event.invariant c.event-reply.ensures c.in-Done.is

pub returns-in_default : goal.returns-in_default
returns-in_default g c = asked_until g.S.FileService.machine g.met.S.FileService.stands _ _ _ c.args.events.now
    c.loop-event.event-index c.event-item.result c.event-reply.result c.loop-event-test.true c.event-item.is
    c.loop-event.invariant c.event-reply.ensures c.in_default.not-Done

pub returns : goal.returns
returns g c = asked_all g.S.FileService.machine g.met.S.FileService.stands _ _ c.args.events.now
    c.loop-event.event-index (omega arith) c.loop-event.invariant
