use Rattle.std.proofs.lemmas.Result.{err_from_is_err_and}
use Rattle.spec_language.specs.Common.{make_dir_events, each}
use Rattle.commands.proofs.LedLaws.{led_on}
use Rattle.commands.proofs.CopyFileLaws.{led_each}
use Rattle.commands.proofs.make_dir.make_own.Goals as goal

pub returns-in_err-enter : goal.returns-in_err-enter
returns-in_err-enter g c =
    let p = err_from_is_err_and c.from_residual.result c.from_residual.ensures.1 in
    rw (p.1, p.2) (λ next. c.in_err-enter.ensures c.args.moment
    (each c.args.moment (make_dir_events c.args.moment c.args.owner 0) next))

pub returns : goal.returns
returns g c next =
    let makes = make_dir_events c.args.moment c.args.owner 0 in
    led_on g.S.FileService.machine _ _ _ _ (each c.args.moment makes next) _
    (c.in_ok-enter.ensures c.args.moment (each c.args.moment makes next))
    (led_each g.S.FileService.machine _ _ c.args.moment c.make_dir_events.result makes next _ c.make_dir_events.ensures
    (c.ask_all.ensures c.args.moment next))
