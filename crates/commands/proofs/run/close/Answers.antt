use Rattle.commands.proofs.StepLaws.{closed_reset, closed_still}
use Rattle.commands.proofs.run.close.Goals as goal

pub returns-in-Commands : goal.returns-in-Commands
returns-in-Commands g c = closed_reset g.S.FileService.machine g.met.S.FileService.stands c.args.language
    c.args.service.now c.event.new.self c.args.moment c.event.result c.in-Commands.is c.event.ensures

pub returns-in-Events : goal.returns-in-Events
returns-in-Events g c = closed_still g.S.FileService.machine g.met.S.FileService.stands c.args.language
    c.args.service.now c.args.moment c.in-Events.is
