use Rattle.std.proofs.Common.{◌++◌, ◌+◌}
use Rattle.std.proofs.lemmas.Result.{err_from_is_err_and}
use Rattle.spec_language.specs.Common.{each, examines, lookup_events, enter_events, list_events, file_words}
use Rattle.commands.proofs.LedLaws.{led_on}
use Rattle.commands.proofs.CopyFileLaws.{led_first, second_led, third_led}
use Rattle.commands.proofs.copy_file.open_both.Goals as goal

pub returns-in_err-ask_all : goal.returns-in_err-ask_all
returns-in_err-ask_all g c =
    let p = err_from_is_err_and c.from_residual.result c.from_residual.ensures.1 in
    let events = enter_events c.args.moment c.args.to ++ list_events 128 in
    rw (p.1, p.2) (λ next. led_first g.S.FileService.machine _ _ c.args.moment c.lookup_events.result
    (lookup_events c.args.moment c.args.from) events (examines c.args.moment (file_words + 3) next) _
    c.lookup_events.ensures
    (c.in_err-ask_all.ensures c.args.moment (each c.args.moment events (examines c.args.moment (file_words + 3) next))))

pub returns-in_err-ask_all-2 : goal.returns-in_err-ask_all-2
returns-in_err-ask_all-2 g c =
    let p = err_from_is_err_and c.from_residual-in_err-ask_all-2.result c.from_residual-in_err-ask_all-2.ensures.1 in
    rw (p.1, p.2) (λ next. second_led g.S.FileService.machine c.args.moment _ _ _ c.lookup_events.result
    c.enter_events.result
    (lookup_events c.args.moment c.args.from) (enter_events c.args.moment c.args.to) (list_events 128)
    (examines c.args.moment (file_words + 3) next) _
    c.lookup_events.ensures c.enter_events.ensures (c.in_ok-ask_all.ensures c.args.moment)
    (c.in_err-ask_all-2.ensures c.args.moment
    (each c.args.moment (list_events 128) (examines c.args.moment (file_words + 3) next))))

pub returns-in_err-ask_all-3 : goal.returns-in_err-ask_all-3
returns-in_err-ask_all-3 g c =
    let p = err_from_is_err_and c.from_residual-in_err-ask_all-3.result c.from_residual-in_err-ask_all-3.ensures.1 in
    rw (p.1, p.2) (λ next. third_led g.S.FileService.machine c.args.moment _ _ _ _ c.lookup_events.result
    c.enter_events.result
    c.list_events.result (lookup_events c.args.moment c.args.from) (enter_events c.args.moment c.args.to)
    (list_events 128)
    (examines c.args.moment (file_words + 3) next) _
    c.lookup_events.ensures c.enter_events.ensures c.list_events.ensures (c.in_ok-ask_all.ensures c.args.moment)
    (c.in_ok-ask_all-2.ensures c.args.moment)
    (c.in_err-ask_all-3.ensures c.args.moment (examines c.args.moment (file_words + 3) next)))

pub returns : goal.returns
returns g c next =
    let then = examines c.args.moment (file_words + 3) next in
    led_on g.S.FileService.machine _ _ _ (each c.args.moment (lookup_events c.args.moment c.args.from
    ++ (enter_events c.args.moment c.args.to ++ list_events 128)) then) then _
    (third_led g.S.FileService.machine c.args.moment _ _ _ _ c.lookup_events.result c.enter_events.result
    c.list_events.result
    (lookup_events c.args.moment c.args.from) (enter_events c.args.moment c.args.to) (list_events 128) then then
    c.lookup_events.ensures c.enter_events.ensures c.list_events.ensures (c.in_ok-ask_all.ensures c.args.moment)
    (c.in_ok-ask_all-2.ensures c.args.moment) (c.in_ok-ask_all-3.ensures c.args.moment then))
    (c.examine.ensures c.args.moment next)
