use Rattle.std.proofs.Common.{◌≡◌, ◌+◌, ◌∙◌, length, take, set, refl, arith, length-set}
use Rattle.std.proofs.lemmas.List.{take_more_set}
use Rattle.std.proofs.lemmas.Result.{err_from_is_err_and}
use Rattle.spec_language.specs.Common.{block_address}
use Rattle.commands.proofs.BodyLaws.{fetches_at_once, fetches_none, fetches_more, fetches_broken, fetches_all}
use Rattle.commands.proofs.read_body.fetch.Goals as goal

pub returns-in-Some : goal.returns-in-Some
returns-in-Some g c moment next =
    fetches_at_once g.S.FileService.machine g.met.S.FileService.stands c.args.service.now moment c.args.count
    block_address c.in-Some.words.now c.copy_from_slice.new.self _ next c.in-Some.ensures.0 c.in-Some.ensures.1
    c.copy_from_slice.ensures.after

pub loop-place-init : goal.loop-place-init
loop-place-init g c = (
  refl,
  fetches_none g.S.FileService.machine block_address c.args.count g.met.S.FileService.stands c.args.service.now,
)

pub loop-place-preserved : goal.loop-place-preserved
loop-place-preserved g c =
    let long : length c.loop-place.block ≡ 128 = c.loop-place.invariant.0 in (
      length-set c.loop-place.block c.loop-place.place c.in_ok-block.field-0 ∙ long,
      fetches_more g.S.FileService.machine block_address c.args.count c.args.service.now c.loop-place.service
          c.examine.new.service c.loop-place.place (take c.loop-place.place c.loop-place.block) c.loop-place-test.true
          c.loop-place.invariant.1
          c.examine.result c.examine.ensures c.in_ok-block.field-0
          (take (c.loop-place.place + 1) (set c.loop-place.block c.loop-place.place c.in_ok-block.field-0))
          c.in_ok-block.was
          (take_more_set c.loop-place.block c.loop-place.place c.in_ok-block.field-0 (omega arith)),
    )

pub returns : goal.returns
returns g c = fetches_all g.S.FileService.machine block_address c.args.count c.args.service.now c.loop-place.service
    c.loop-place.place c.loop-place.block c.loop-place-test.false c.loop-place.auto.place-end c.loop-place.invariant.1

pub returns-in_err-block : goal.returns-in_err-block
returns-in_err-block g c =
    let p = err_from_is_err_and c.from_residual.result c.from_residual.ensures.1 in
    rw (p.1, p.2)
    (fetches_broken g.S.FileService.machine block_address c.args.count c.args.service.now c.loop-place.service
    c.examine.new.service c.loop-place.place (take c.loop-place.place c.loop-place.block) c.loop-place-test.true
    c.loop-place.invariant.1
    c.examine.result c.examine.ensures c.in_err-block.field-0.0 c.in_err-block.was)
