use Rattle.std.proofs.Common.{subst, sym}
use Rattle.spec_language.specs.Common.{own_file, Plan}
use Rattle.commands.specs.Common.{FinishesPlan}
use Rattle.commands.proofs.AbsentLaws.{keeps_none}
use Rattle.commands.proofs.ErrandLaws.{refused_words}
use Rattle.commands.proofs.transfer.put_words.Goals as goal

pub returns-in-Err : goal.returns-in-Err
returns-in-Err g c =
    let file = c.args.file.now in
    rw c.in-Err.is (subst (λ (plan : Plan). FinishesPlan (λ bytes. bytes.items) c.refuse.result g.S.FileService.machine
    c.args.service.now c.args.service.now plan c.args.tally.now c.refuse.new.tally)
    (sym (keeps_none file.existing c.args.moment file.owner file.encoding (own_file file.name)))
    (refused_words g.S.FileService.machine g.met.S.FileService.stands
    (λ bytes. bytes.items) c.refuse.result _ c.args.tally.now c.refuse.new.tally c.unfit.result.now _ c.unfit.ensures
    c.refuse.ensures.refused c.refuse.ensures.broke c.refuse.ensures.reason c.refuse.ensures.text))
