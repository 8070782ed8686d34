use Rattle.std.proofs.lemmas.Result.{err_from_is_err_and}
use Rattle.commands.specs.Common.{no_room, labels}
use Rattle.commands.proofs.ErrandLaws.{carried, errand_done, errand_cut}
use Rattle.commands.proofs.import_file.write_excess.Goals as goal

pub returns-in_err-print : goal.returns-in_err-print
returns-in_err-print g c =
    let p = err_from_is_err_and c.from_residual.result c.from_residual.ensures.1 in
    let plan = labels c.args.label.now no_room in
    rw (p.1, p.2) (errand_cut g.S.FileService.machine (λ bytes. bytes.items) c.refuse_length-text.result _ _ _ _
    plan c.refuse_length-text.new.tally c.in_err-print.field-0.0
    (carried g.S.FileService.machine (λ bytes. bytes.items) c.refuse_length-text.result _ _ plan c.none-tally.result
    c.refuse_length-text.new.tally c.none-tally.ensures c.refuse_length-text.ensures) c.in_err-print.ensures)

pub returns : goal.returns
returns g c =
    let plan = labels c.args.label.now no_room in
    errand_done g.S.FileService.machine (λ bytes. bytes.items) c.refuse_length-text.result _ _ _ _
    plan c.refuse_length-text.new.tally tt
    (carried g.S.FileService.machine (λ bytes. bytes.items) c.refuse_length-text.result _ _ plan c.none-tally.result
    c.refuse_length-text.new.tally c.none-tally.ensures c.refuse_length-text.ensures) c.in_ok-print.ensures
