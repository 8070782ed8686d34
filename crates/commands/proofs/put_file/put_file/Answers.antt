use Rattle.std.proofs.Common.{subst, sym}
use Rattle.spec_language.specs.Common.{own_file, Plan, ends, ok}
use Rattle.commands.specs.Common.{FinishesPlan}
use Rattle.commands.proofs.AbsentLaws.{keeps_some}
use Rattle.commands.proofs.ErrandLaws.{concluded_behind}
use Rattle.commands.proofs.put_file.put_file.Goals as goal

pub returns : goal.returns
returns g c =
    let file = c.args.file.now in
    subst (λ (plan : Plan). FinishesPlan (λ bytes. bytes.items) c.conclude.result g.S.FileService.machine
    c.args.service.now c.conclude.new.service plan c.args.tally.now c.conclude.new.tally)
    (sym (keeps_some file.existing c.args.moment file.owner file.encoding (own_file file.name) c.args.words.now))
    (concluded_behind g.S.FileService.machine (λ bytes. bytes.items) c.conclude.result _ _ _ _ _
    c.args.tally.now c.conclude.new.tally (c.write_file-written.ensures (ends c.args.moment ok)) c.conclude.ensures)
