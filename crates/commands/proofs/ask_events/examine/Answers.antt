use Rattle.commands.proofs.LedLaws.{led_told, led_untold}
use Rattle.commands.proofs.ask_events.examine.Goals as goal

pub returns-in-Value : goal.returns-in-Value
returns-in-Value g c moment next = led_told g.S.FileService.machine g.met.S.FileService.stands _ _ c.args.address
    c.event-reply.result c.in-Value.word moment next c.in-Value.is c.event-reply.ensures

pub returns-in_default : goal.returns-in_default
returns-in_default g c moment next = led_untold g.S.FileService.machine g.met.S.FileService.stands _ _
    c.args.address c.event-reply.result moment next c.in_default.not-Value c.event-reply.ensures
