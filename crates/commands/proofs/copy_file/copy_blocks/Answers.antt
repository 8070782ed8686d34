use Rattle.std.proofs.Common.{◌*◌, ◌%◌}
use Rattle.std.proofs.lemmas.Result.{err_from_is_err_and}
use Rattle.spec_language.specs.Common.{copy_blocks_plan, copy_runs_plan, list_events, blocks_at_once}
use Rattle.commands.proofs.LedLaws.{led_on}
use Rattle.commands.proofs.CopyFileLaws.{led_each, runs_behind, singles_behind}
use Rattle.commands.proofs.copy_file.copy_blocks.Goals as goal

pub returns-in_err-ask_all : goal.returns-in_err-ask_all
returns-in_err-ask_all g c =
    let p = err_from_is_err_and c.from_residual.result c.from_residual.ensures.1 in
    rw (p.1, p.2) (λ next. led_each g.S.FileService.machine _ _ c.args.moment c.list_events.result
    (list_events (blocks_at_once * 128)) (runs_behind c.args.moment c.args.count next) _ c.list_events.ensures
    (c.in_err-ask_all.ensures c.args.moment (runs_behind c.args.moment c.args.count next)))

pub returns-in_err-copy_runs : goal.returns-in_err-copy_runs
returns-in_err-copy_runs g c =
    let p = err_from_is_err_and c.from_residual-in_err-copy_runs.result c.from_residual-in_err-copy_runs.ensures.1 in
    rw (p.1, p.2) (λ next. led_on g.S.FileService.machine _ _ _ (copy_blocks_plan c.args.moment c.args.count next)
    (runs_behind c.args.moment c.args.count next) _
    (led_each g.S.FileService.machine _ _ c.args.moment c.list_events.result (list_events (blocks_at_once * 128))
    (runs_behind c.args.moment c.args.count next) _ c.list_events.ensures
    (c.in_ok-ask_all.ensures c.args.moment (runs_behind c.args.moment c.args.count next)))
    (c.in_err-copy_runs.ensures (singles_behind c.args.moment c.args.count next)))

pub returns-in_err-ask_all-2 : goal.returns-in_err-ask_all-2
returns-in_err-ask_all-2 g c =
    let p = err_from_is_err_and c.from_residual-in_err-ask_all-2.result c.from_residual-in_err-ask_all-2.ensures.1 in
    rw (p.1, p.2) (λ next. led_on g.S.FileService.machine _ _ _ (copy_blocks_plan c.args.moment c.args.count next)
    (singles_behind c.args.moment c.args.count next) _
    (led_on g.S.FileService.machine _ _ _ (copy_blocks_plan c.args.moment c.args.count next)
    (runs_behind c.args.moment c.args.count next) _
    (led_each g.S.FileService.machine _ _ c.args.moment c.list_events.result (list_events (blocks_at_once * 128))
    (runs_behind c.args.moment c.args.count next) _ c.list_events.ensures
    (c.in_ok-ask_all.ensures c.args.moment (runs_behind c.args.moment c.args.count next)))
    (c.in_ok-copy_runs.ensures (singles_behind c.args.moment c.args.count next)))
    (led_each g.S.FileService.machine _ _ c.args.moment c.list_events-2.result (list_events 128)
    (copy_runs_plan c.args.moment (c.args.count % blocks_at_once) next) _ c.list_events-2.ensures
    (c.in_err-ask_all-2.ensures c.args.moment (copy_runs_plan c.args.moment (c.args.count % blocks_at_once) next))))

pub returns : goal.returns
returns g c next =
    led_on g.S.FileService.machine _ _ _ (copy_blocks_plan c.args.moment c.args.count next)
    (singles_behind c.args.moment c.args.count next) _
    (led_on g.S.FileService.machine _ _ _ (copy_blocks_plan c.args.moment c.args.count next)
    (runs_behind c.args.moment c.args.count next) _
    (led_each g.S.FileService.machine _ _ c.args.moment c.list_events.result (list_events (blocks_at_once * 128))
    (runs_behind c.args.moment c.args.count next) _ c.list_events.ensures
    (c.in_ok-ask_all.ensures c.args.moment (runs_behind c.args.moment c.args.count next)))
    (c.in_ok-copy_runs.ensures (singles_behind c.args.moment c.args.count next)))
    (led_on g.S.FileService.machine _ _ _ (singles_behind c.args.moment c.args.count next)
    (copy_runs_plan c.args.moment (c.args.count % blocks_at_once) next) _
    (led_each g.S.FileService.machine _ _ c.args.moment c.list_events-2.result (list_events 128)
    (copy_runs_plan c.args.moment (c.args.count % blocks_at_once) next) _ c.list_events-2.ensures
    (c.in_ok-ask_all-2.ensures c.args.moment (copy_runs_plan c.args.moment (c.args.count % blocks_at_once) next)))
    (c.copy_runs-2.ensures next))
