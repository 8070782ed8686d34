use Rattle.std.proofs.lemmas.Result.{err_from_is_err_and}
use Rattle.spec_language.specs.Common.{block_address}
use Rattle.commands.proofs.TypeLaws.{handed_on, fetched_at_once, fetched_none, fetched_more, fetched_until}
use Rattle.commands.proofs.TypeLaws.{fetched_all}
use Rattle.commands.proofs.type_line.type_words.Goals as goal

pub returns-in-Some : goal.returns-in-Some
returns-in-Some g c moment =
    fetched_at_once g.S.FileService.machine moment block_address c.args.count g.met.S.FileService.stands
    c.args.service.now c.in-Some.words.now _ _ tt c.in-Some.ensures.0 c.in-Some.ensures.1 c.push.ensures

pub loop-place-init : goal.loop-place-init
loop-place-init g c moment =
    fetched_none g.S.FileService.machine moment block_address c.args.count g.met.S.FileService.stands
    c.args.service.now c.args.typed.now

pub returns-in_err-word : goal.returns-in_err-word
returns-in_err-word g c moment =
    let p = err_from_is_err_and c.from_residual.result c.from_residual.ensures.1 in
    fetched_until g.S.FileService.machine moment block_address c.args.count c.args.service.now c.loop-place.service
    c.examine.new.service c.loop-place.place c.args.typed.now c.loop-place.typed c.loop-place-test.true
    (c.loop-place.invariant moment) _ _ (handed_on p.1 p.2) (λ next. c.in_err-word.ensures moment next)

pub loop-place-preserved : goal.loop-place-preserved
loop-place-preserved g c moment =
    fetched_more g.S.FileService.machine moment block_address c.args.count c.args.service.now c.loop-place.service
    c.examine.new.service c.loop-place.place c.args.typed.now c.loop-place.typed c.loop-place-test.true
    (c.loop-place.invariant moment) c.in_ok-word.word _ (λ next. c.in_ok-word.ensures moment next)
    c.push-in-loop-place.ensures

pub returns : goal.returns
returns g c moment =
    fetched_all g.S.FileService.machine moment block_address c.args.count c.args.service.now c.loop-place.service
    c.loop-place.place c.args.typed.now c.loop-place.typed tt c.loop-place-test.false (c.loop-place.invariant moment)
