use Rattle.commands.proofs.LedLaws.{led_reset}
use Rattle.commands.proofs.ask_events.reset.Goals as goal

pub returns : goal.returns
returns g c said = led_reset g.S.FileService.machine g.met.S.FileService.stands _ _ c.args.moment c.event.result
    said c.event.ensures
