use Rattle.commands.proofs.LedLaws.{led_still}
use Rattle.commands.proofs.put_file.make_way.Goals as goal

pub returns-in-Replace : goal.returns-in-Replace
returns-in-Replace g c = rw c.in-Replace.is
    (λ next. led_still g.S.FileService.machine g.met.S.FileService.stands _ next)
