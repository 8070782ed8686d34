use Rattle.std.proofs.lemmas.Result.{err_from_is_err_and}
use Rattle.commands.proofs.TypeLaws.{handed_on, two_made, asked_done, asked_failed, not_counted, no_list, no_last}
use Rattle.commands.proofs.TypeLaws.{read_last}
use Rattle.commands.proofs.type_line.type_last.Goals as goal

pub returns-in_err-count : goal.returns-in_err-count
returns-in_err-count g c =
    let p = err_from_is_err_and c.from_residual.result c.from_residual.ensures.1 in
    not_counted g.S.FileService.machine _ _ c.args.moment c.args.n c.args.size _ _ c.in_err-count.field-0.0
    (handed_on p.1 p.2) c.in_err-count.ensures.led

pub returns-in_err-ask_all : goal.returns-in_err-ask_all
returns-in_err-ask_all g c =
    let p = err_from_is_err_and c.from_residual-in_err-ask_all.result c.from_residual-in_err-ask_all.ensures.1 in
    no_list g.S.FileService.machine _ _ c.args.moment c.args.n c.args.size c.in_ok-count.count c.in_ok-count.ensures.led
    _ _ _ _ (handed_on p.1 p.2)
    (asked_failed g.S.FileService.machine c.args.moment c.in_err-ask_all.field-0.0 c.list_events.ensures
    c.in_err-ask_all.ensures)

pub returns-in_err-ask_all-2 : goal.returns-in_err-ask_all-2
returns-in_err-ask_all-2 g c =
    let p = err_from_is_err_and c.from_residual-in_err-ask_all-2.result c.from_residual-in_err-ask_all-2.ensures.1 in
    no_last g.S.FileService.machine _ _ c.args.moment c.args.n c.args.size c.in_ok-count.count c.in_ok-count.ensures.led
    _ _
    (asked_done g.S.FileService.machine c.args.moment c.list_events.ensures c.in_ok-ask_all.ensures) _ _ _
    (handed_on p.1 p.2)
    (asked_failed g.S.FileService.machine c.args.moment c.in_err-ask_all-2.field-0.0
    (two_made c.useti_event.ensures c.in_event.ensures) c.in_err-ask_all-2.ensures)

pub returns : goal.returns
returns g c =
    read_last g.S.FileService.machine _ _ c.args.moment c.args.n c.args.size c.in_ok-count.count
    c.in_ok-count.ensures.led _ _
    (asked_done g.S.FileService.machine c.args.moment c.list_events.ensures c.in_ok-ask_all.ensures) _
    (asked_done g.S.FileService.machine c.args.moment (two_made c.useti_event.ensures c.in_event.ensures)
    c.in_ok-ask_all-2.ensures) _ _ _ (c.type_words.ensures c.args.moment)
