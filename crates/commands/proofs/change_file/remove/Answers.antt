use Rattle.std.proofs.Common.{◌++◌, ap}
use Rattle.spec_language.specs.Common.{lookup_events}
use Rattle.commands.proofs.CopyFileLaws.{led_each}
use Rattle.commands.proofs.change_file.remove.Goals as goal

pub returns : goal.returns
returns g c next = led_each g.S.FileService.machine _ _ c.args.moment
    (lookup_events c.args.moment c.args.spec ++ c.delete_events.result) _ next _
    (ap (λ l. lookup_events c.args.moment c.args.spec ++ l) c.delete_events.ensures) (c.change.ensures next)
