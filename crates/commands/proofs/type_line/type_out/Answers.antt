use Rattle.std.proofs.Common.{refl}
use Rattle.spec_language.specs.Common.{type_plan}
use Rattle.spec_language.specs.declared.command.Command.TheVariants.{TypeOut as TypeLine}
use Rattle.commands.proofs.AnswerLaws.{spoke_concluded}
use Rattle.commands.proofs.LedLaws.{led_still}
use Rattle.commands.proofs.type_line.type_out.Goals as goal

pub returns : goal.returns
returns g c = spoke_concluded g.S.FileService.machine g.met.S.FileService.stands
    (λ bytes. bytes.items) c.read_out.result c.args.moment c.args.tally.now c.read_out.new.tally _ _ _ c.args.me
    (TypeLine c.args.spec) (type_plan c.args.moment c.args.spec) (λ acts said p. (p, refl))
    (led_still g.S.FileService.machine g.met.S.FileService.stands _ (type_plan c.args.moment c.args.spec))
    c.read_out.ensures
