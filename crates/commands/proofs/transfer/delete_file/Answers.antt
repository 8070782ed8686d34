use Rattle.spec_language.specs.Common.{delete_events, each, ends, fails, ok}
use Rattle.commands.specs.Common.{followed}
use Rattle.commands.proofs.ErrandLaws.{concluded_behind}
use Rattle.commands.proofs.LedLaws.{led_on}
use Rattle.commands.proofs.transfer.delete_file.Goals as goal

pub returns-in-Ok : goal.returns-in-Ok
returns-in-Ok g c =
    let last = ends c.args.moment ok in
    let rest = each c.args.moment (delete_events c.args.moment c.args.spec) last in
    concluded_behind g.S.FileService.machine (λ bytes. bytes.items) c.conclude.result _ _ _ _
    (followed c.args.moment c.remove-deleted.result (λ unit. last)) c.args.tally.now c.conclude.new.tally
    (led_on g.S.FileService.machine _ _ _ _ rest _ (c.in-Ok.ensures c.args.moment rest)
    (c.remove-deleted.ensures last)) c.conclude.ensures

pub returns-in-Err : goal.returns-in-Err
returns-in-Err g c =
    let rest = each c.args.moment (delete_events c.args.moment c.args.spec) (ends c.args.moment ok) in
    concluded_behind g.S.FileService.machine (λ bytes. bytes.items) c.conclude-in-Err.result _ _ _ _
    (fails c.args.moment c.in-Err.reply) c.args.tally.now c.conclude-in-Err.new.tally
    (c.in-Err.ensures c.args.moment rest) c.conclude-in-Err.ensures
