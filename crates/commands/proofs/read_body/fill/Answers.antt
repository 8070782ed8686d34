use Rattle.std.proofs.lemmas.Result.{err_from_is_err_and}
use Rattle.spec_language.specs.Common.{block_address}
use Rattle.commands.proofs.BodyLaws.{fills_none, fills_more, fills_broken, fills_all}
use Rattle.commands.proofs.read_body.fill.Goals as goal

pub loop-place-init : goal.loop-place-init
loop-place-init g c = fills_none g.S.FileService.machine block_address 128 c.args.word g.met.S.FileService.stands
    c.args.service.now

pub loop-place-preserved : goal.loop-place-preserved
loop-place-preserved g c =
    fills_more g.S.FileService.machine block_address 128 c.args.word c.args.service.now c.loop-place.service
    c.ask_all.new.service c.loop-place.place c.loop-place-test.true c.loop-place.invariant
    c.fill_event.result c.fill_event.ensures c.ask_all.result c.ask_all.ensures c.in_ok-ask_all.field-0
    c.in_ok-ask_all.was

pub returns : goal.returns
returns g c = fills_all g.S.FileService.machine block_address 128 c.args.word c.args.service.now c.loop-place.service
    c.loop-place.place c.loop-place-test.false c.loop-place.invariant

pub returns-in_err-ask_all : goal.returns-in_err-ask_all
returns-in_err-ask_all g c =
    let p = err_from_is_err_and c.from_residual.result c.from_residual.ensures.1 in
    rw (p.1, p.2)
    (fills_broken g.S.FileService.machine block_address 128 c.args.word c.args.service.now c.loop-place.service
    c.ask_all.new.service c.loop-place.place c.loop-place-test.true c.loop-place.invariant
    c.fill_event.result c.fill_event.ensures c.ask_all.result c.ask_all.ensures c.in_err-ask_all.field-0.0
    c.in_err-ask_all.was)
