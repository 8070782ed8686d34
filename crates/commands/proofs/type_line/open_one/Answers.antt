use Rattle.std.proofs.lemmas.Result.{err_from_is_err_and}
use Rattle.commands.proofs.TypeLaws.{handed_on, asked_done, asked_failed, not_found, not_listed, opened}
use Rattle.commands.proofs.type_line.open_one.Goals as goal

pub returns-in_err-ask_all : goal.returns-in_err-ask_all
returns-in_err-ask_all g c = λ next.
    let p = err_from_is_err_and c.from_residual.result c.from_residual.ensures.1 in
    not_found g.S.FileService.machine _ _ c.args.moment c.args.spec c.from_residual.result c.in_err-ask_all.field-0.0
    (handed_on p.1 p.2)
    (asked_failed g.S.FileService.machine c.args.moment c.in_err-ask_all.field-0.0 c.lookup_events.ensures
    c.in_err-ask_all.ensures) next next

pub returns-in_err-ask_all-2 : goal.returns-in_err-ask_all-2
returns-in_err-ask_all-2 g c = λ next.
    let p = err_from_is_err_and c.from_residual-in_err-ask_all-2.result c.from_residual-in_err-ask_all-2.ensures.1 in
    not_listed g.S.FileService.machine _ _ c.args.moment c.args.spec
    (asked_done g.S.FileService.machine c.args.moment c.lookup_events.ensures c.in_ok-ask_all.ensures) _
    c.from_residual-in_err-ask_all-2.result c.in_err-ask_all-2.field-0.0 (handed_on p.1 p.2)
    (asked_failed g.S.FileService.machine c.args.moment c.in_err-ask_all-2.field-0.0 c.list_events.ensures
    c.in_err-ask_all-2.ensures) next next

pub returns : goal.returns
returns g c = λ next.
    opened g.S.FileService.machine _ _ c.args.moment c.args.spec
    (asked_done g.S.FileService.machine c.args.moment c.lookup_events.ensures c.in_ok-ask_all.ensures) _
    (asked_done g.S.FileService.machine c.args.moment c.list_events.ensures c.in_ok-ask_all-2.ensures) _
    c.examine.result
    (λ then. c.examine.ensures c.args.moment then) next
