use Rattle.std.proofs.Common.{◌++◌, refl, ap}
use Rattle.spec_language.specs.Common.{ends, ok, lookup_events}
use Rattle.spec_language.specs.declared.command.Command.TheVariants.{Rename as RenameLine}
use Rattle.commands.proofs.CopyFileLaws.{led_each}
use Rattle.commands.proofs.AnswerLaws.{spoke_concluded}
use Rattle.commands.proofs.change_file.rename.Goals as goal

pub returns : goal.returns
returns g c = spoke_concluded g.S.FileService.machine g.met.S.FileService.stands
    (λ bytes. bytes.items) c.conclude.result c.args.moment c.args.tally.now c.conclude.new.tally _ _ _ c.args.me
    (RenameLine c.args.to c.args.from) _ (λ acts said p. (p, refl))
    (led_each g.S.FileService.machine _ _ c.args.moment
    (lookup_events c.args.moment c.args.from ++ c.rename_events.result) _
    (ends c.args.moment ok) _ (ap (λ l. lookup_events c.args.moment c.args.from ++ l) c.rename_events.ensures)
    (c.change-renamed.ensures (ends c.args.moment ok))) c.conclude.ensures
