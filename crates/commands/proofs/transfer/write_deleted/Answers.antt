use Rattle.std.proofs.lemmas.Result.{err_from_is_err_and}
use Rattle.commands.specs.Common.{delete_plan}
use Rattle.commands.proofs.ErrandLaws.{carried, errand_done, errand_cut}
use Rattle.commands.proofs.transfer.write_deleted.Goals as goal

pub returns-in_err-print : goal.returns-in_err-print
returns-in_err-print g c =
    let p = err_from_is_err_and c.from_residual.result c.from_residual.ensures.1 in
    rw (p.1, p.2) (errand_cut g.S.FileService.machine (λ bytes. bytes.items) c.delete_file-text.result _ _ _ _
    (delete_plan c.args.moment c.args.owner c.args.spec) c.delete_file-text.new.tally c.in_err-print.field-0.0
    (carried g.S.FileService.machine (λ bytes. bytes.items) c.delete_file-text.result _ _
    (delete_plan c.args.moment c.args.owner c.args.spec) c.none-tally.result c.delete_file-text.new.tally
    c.none-tally.ensures c.delete_file-text.ensures) c.in_err-print.ensures)

pub returns : goal.returns
returns g c =
    errand_done g.S.FileService.machine (λ bytes. bytes.items) c.delete_file-text.result _ _ _ _
    (delete_plan c.args.moment c.args.owner c.args.spec) c.delete_file-text.new.tally tt
    (carried g.S.FileService.machine (λ bytes. bytes.items) c.delete_file-text.result _ _
    (delete_plan c.args.moment c.args.owner c.args.spec) c.none-tally.result c.delete_file-text.new.tally
    c.none-tally.ensures c.delete_file-text.ensures) c.in_ok-print.ensures
