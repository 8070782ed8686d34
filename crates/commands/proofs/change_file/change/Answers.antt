use Rattle.std.proofs.Common.{◌++◌}
use Rattle.std.proofs.lemmas.Result.{err_from_is_err_and}
use Rattle.spec_language.specs.Common.{each, lookup_events}
use Rattle.commands.proofs.LedLaws.{led_on}
use Rattle.commands.proofs.CopyFileLaws.{led_first}
use Rattle.commands.proofs.change_file.change.Goals as goal

pub returns-in_err-ask_all : goal.returns-in_err-ask_all
returns-in_err-ask_all g c =
    let p = err_from_is_err_and c.from_residual.result c.from_residual.ensures.1 in
    rw (p.1, p.2) (λ next. led_first g.S.FileService.machine _ _ c.args.moment c.lookup_events.result
    (lookup_events c.args.moment c.args.spec) c.args.changes.now next _ c.lookup_events.ensures
    (c.in_err-ask_all.ensures c.args.moment (each c.args.moment c.args.changes.now next)))

pub returns : goal.returns
returns g c next =
    let behind = each c.args.moment c.args.changes.now next in
    led_on g.S.FileService.machine _ _ _
    (each c.args.moment (lookup_events c.args.moment c.args.spec ++ c.args.changes.now) next) behind _
    (led_first g.S.FileService.machine _ _ c.args.moment c.lookup_events.result
    (lookup_events c.args.moment c.args.spec)
    c.args.changes.now next _ c.lookup_events.ensures (c.in_ok-ask_all.ensures c.args.moment behind))
    (c.ask_all-2.ensures c.args.moment next)
