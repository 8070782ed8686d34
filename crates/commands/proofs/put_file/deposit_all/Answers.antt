use Rattle.std.proofs.Common.{arith, refl, sym, subst}
use Rattle.std.proofs.lemmas.Result.{err_from_is_err_and}
use Rattle.spec_language.specs.Common.{deposit_events}
use Rattle.commands.proofs.LedLaws.{led_done}
use Rattle.commands.proofs.PutLaws.{Deposits, deposits_none, deposits_more, deposits_broken, deposits_all}
use Rattle.commands.proofs.put_file.deposit_all.Goals as goal

pub returns-then-deposit_all : goal.returns-then-deposit_all
returns-then-deposit_all g c moment next =
    led_done g.S.FileService.machine g.met.S.FileService.stands c.args.service.now c.deposit_all.new.self
    (deposit_events c.args.address c.args.words.now) (c.deposit_all.ensures.done c.if-deposit_all.true) moment next

pub loop-place-init : goal.loop-place-init
loop-place-init g c =
    subst (λ service. Deposits g.S.FileService.machine c.args.address c.args.words.now c.args.service.now service 0)
    (sym (c.deposit_all.ensures.refused c.if-deposit_all.false))
    (deposits_none g.S.FileService.machine c.args.address c.args.words.now g.met.S.FileService.stands
    c.args.service.now)

pub loop-place-preserved : goal.loop-place-preserved
loop-place-preserved g c =
    deposits_more g.S.FileService.machine c.args.address c.args.words.now c.args.service.now c.loop-place.service
    c.ask_all.new.service c.loop-place.place c.index-words-place.result c.loop-place-test.true c.index-words-place.is
    c.loop-place.invariant _ refl c.in_ok-ask_all.ensures

pub returns-in_err-ask_all : goal.returns-in_err-ask_all
returns-in_err-ask_all g c =
    let p = err_from_is_err_and c.from_residual.result c.from_residual.ensures.1 in
    rw (p.1, p.2)
    (deposits_broken g.S.FileService.machine c.args.address c.args.words.now c.args.service.now c.loop-place.service
    c.ask_all.new.service c.loop-place.place c.index-words-place.result c.loop-place-test.true c.index-words-place.is
    c.loop-place.invariant _ refl c.in_err-ask_all.field-0.0 c.in_err-ask_all.ensures)

pub returns : goal.returns
returns g c = deposits_all g.S.FileService.machine c.args.address c.args.words.now c.args.service.now
    c.loop-place.service c.loop-place.place (omega (arith, c.loop-place-test.false)) c.loop-place.invariant
