use Rattle.spec_language.specs.Common.{fails, read_plan}
use Rattle.commands.proofs.ErrandLaws.{concluded_behind}
use Rattle.commands.proofs.transfer.get_file.Goals as goal

pub returns-in-Ok : goal.returns-in-Ok
returns-in-Ok g c = concluded_behind g.S.FileService.machine (λ bytes. bytes.items) c.read_out.result _ _ _ _
    (read_plan c.args.moment c.args.encoding c.args.spec) c.args.tally.now c.read_out.new.tally
    (c.in-Ok.ensures c.args.moment (read_plan c.args.moment c.args.encoding c.args.spec)) c.read_out.ensures

pub returns-in-Err : goal.returns-in-Err
returns-in-Err g c = concluded_behind g.S.FileService.machine (λ bytes. bytes.items) c.conclude.result _ _ _ _
    (fails c.args.moment c.in-Err.reply) c.args.tally.now c.conclude.new.tally
    (c.in-Err.ensures c.args.moment (read_plan c.args.moment c.args.encoding c.args.spec)) c.conclude.ensures
