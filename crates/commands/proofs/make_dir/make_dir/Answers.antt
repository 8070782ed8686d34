use Rattle.std.proofs.Common.{refl}
use Rattle.spec_language.specs.Common.{ends, ok}
use Rattle.spec_language.specs.declared.command.Command.TheVariants.{MakeDir as MakeLine}
use Rattle.commands.proofs.CopyFileLaws.{led_each}
use Rattle.commands.proofs.AnswerLaws.{spoke_concluded}
use Rattle.commands.proofs.make_dir.make_dir.Goals as goal

pub returns : goal.returns
returns g c = spoke_concluded g.S.FileService.machine g.met.S.FileService.stands
    (λ bytes. bytes.items) c.conclude.result c.args.moment c.args.tally.now c.conclude.new.tally _ _ _ c.args.me
    (MakeLine c.args.owner c.args.protection) _ (λ acts said p. (p, refl))
    (led_each g.S.FileService.machine _ _ c.args.moment c.make_dir_events.result _ (ends c.args.moment ok) _
    c.make_dir_events.ensures
    (c.ask_all-made.ensures c.args.moment (ends c.args.moment ok))) c.conclude.ensures
