use Rattle.std.proofs.Common.{◌*◌, ◌/◌, ◌%◌}
use Rattle.std.proofs.lemmas.Result.{err_from_is_err_and}
use Rattle.spec_language.specs.Common.{blocks_at_once}
use Rattle.commands.proofs.TypeLaws.{handed_on, asked_done, asked_failed, no_listed, read_listed, no_blocks}
use Rattle.commands.proofs.TypeLaws.{read_blocks}
use Rattle.commands.proofs.type_line.type_blocks.Goals as goal

pub returns-in_err-ask_all : goal.returns-in_err-ask_all
returns-in_err-ask_all g c =
    let p = err_from_is_err_and c.from_residual.result c.from_residual.ensures.1 in
    no_blocks g.S.FileService.machine c.args.moment c.args.count _ _ _ _ c.from_residual.result _
    c.in_err-ask_all.field-0.0 (handed_on p.1 p.2) (handed_on p.1 p.2)
    (no_listed g.S.FileService.machine c.args.moment (c.args.count / blocks_at_once) (blocks_at_once * 128) _ _ _ _
    c.in_err-ask_all.field-0.0 (handed_on p.1 p.2)
    (asked_failed g.S.FileService.machine c.args.moment c.in_err-ask_all.field-0.0 c.list_events.ensures
    c.in_err-ask_all.ensures))

pub returns-in_err-type_runs : goal.returns-in_err-type_runs
returns-in_err-type_runs g c =
    let p = err_from_is_err_and c.from_residual-in_err-type_runs.result c.from_residual-in_err-type_runs.ensures.1 in
    no_blocks g.S.FileService.machine c.args.moment c.args.count _ _ _ _ c.type_runs.result _
    c.in_err-type_runs.field-0.0 c.in_err-type_runs.was (handed_on p.1 p.2)
    (read_listed g.S.FileService.machine c.args.moment (c.args.count / blocks_at_once) (blocks_at_once * 128) _
    c.ask_all.new.service _ _ _ _
    (asked_done g.S.FileService.machine c.args.moment c.list_events.ensures c.in_ok-ask_all.ensures)
    c.type_runs.ensures)

pub returns-in_err-ask_all-2 : goal.returns-in_err-ask_all-2
returns-in_err-ask_all-2 g c =
    let p = err_from_is_err_and c.from_residual-in_err-ask_all-2.result c.from_residual-in_err-ask_all-2.ensures.1 in
    read_blocks g.S.FileService.machine c.args.moment c.args.count _ c.type_runs.new.service _ _ c.type_runs.new.typed _
    c.in_ok-type_runs.field-0 _
    (read_listed g.S.FileService.machine c.args.moment (c.args.count / blocks_at_once) (blocks_at_once * 128) _
    c.ask_all.new.service _ _ _ _
    (asked_done g.S.FileService.machine c.args.moment c.list_events.ensures c.in_ok-ask_all.ensures)
    c.in_ok-type_runs.ensures)
    (no_listed g.S.FileService.machine c.args.moment (c.args.count % blocks_at_once) 128 _ _ _ _
    c.in_err-ask_all-2.field-0.0 (handed_on p.1 p.2)
    (asked_failed g.S.FileService.machine c.args.moment c.in_err-ask_all-2.field-0.0 c.list_events-2.ensures
    c.in_err-ask_all-2.ensures))

pub returns : goal.returns
returns g c =
    read_blocks g.S.FileService.machine c.args.moment c.args.count _ c.type_runs.new.service _ _ c.type_runs.new.typed _
    c.in_ok-type_runs.field-0 _
    (read_listed g.S.FileService.machine c.args.moment (c.args.count / blocks_at_once) (blocks_at_once * 128) _
    c.ask_all.new.service _ _ _ _
    (asked_done g.S.FileService.machine c.args.moment c.list_events.ensures c.in_ok-ask_all.ensures)
    c.in_ok-type_runs.ensures)
    (read_listed g.S.FileService.machine c.args.moment (c.args.count % blocks_at_once) 128 _
    c.ask_all-2.new.service _ _ _ _
    (asked_done g.S.FileService.machine c.args.moment c.list_events-2.ensures c.in_ok-ask_all-2.ensures)
    c.type_runs-2.ensures)
