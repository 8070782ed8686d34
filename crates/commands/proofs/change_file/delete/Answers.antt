use Rattle.std.proofs.Common.{refl}
use Rattle.spec_language.specs.Common.{ends, ok}
use Rattle.spec_language.specs.declared.command.Command.TheVariants.{Delete as DeleteLine}
use Rattle.commands.proofs.AnswerLaws.{spoke_concluded}
use Rattle.commands.proofs.change_file.delete.Goals as goal

pub returns : goal.returns
returns g c = spoke_concluded g.S.FileService.machine g.met.S.FileService.stands
    (λ bytes. bytes.items) c.conclude.result c.args.moment c.args.tally.now c.conclude.new.tally _ _ _ c.args.me
    (DeleteLine c.args.spec) _ (λ acts said p. (p, refl)) (c.remove-deleted.ensures (ends c.args.moment ok))
    c.conclude.ensures
