use Rattle.std.proofs.Common.{◌≡◌, ◌∙◌, ◌<◌, length, arith}
use Rattle.std.proofs.lemmas.Result.{err_from_is_err_and}
use Rattle.commands.proofs.PutLaws.{filled_none, filled_more, filled_broken, filled_all, take_part, drop_part}
use Rattle.commands.proofs.PutLaws.{rest_shorter}
use Rattle.commands.proofs.put_file.fill_all.Goals as goal

pub loop-rest-init : goal.loop-rest-init
loop-rest-init g c = filled_none g.S.FileService.machine c.args.moment c.args.encoding c.args.words.now
    g.met.S.FileService.stands c.args.service.now

pub loop-rest-preserved : goal.loop-rest-preserved
loop-rest-preserved g c =
    let some : 0 < length c.loop-rest.rest.now = grind arith in
    filled_more g.S.FileService.machine c.args.moment c.args.encoding c.args.words.now _ _ _ c.loop-rest.rest.now _ _
    some
    (c.split_at.ensures.front ∙ take_part c.args.encoding c.loop-rest.rest.now c.min.result c.part_words.result
    c.part_words.ensures c.min.ensures)
    (c.split_at.ensures.back ∙ drop_part c.args.encoding c.loop-rest.rest.now c.min.result c.part_words.result
    c.part_words.ensures c.min.ensures)
    c.loop-rest.invariant c.in_ok-fill_part.ensures

pub loop-rest-smaller : goal.loop-rest-smaller
loop-rest-smaller g c =
    let some : 0 < length c.loop-rest.rest.now = grind arith in
    rest_shorter c.args.encoding c.loop-rest.rest.now _ some
    (c.split_at.ensures.back ∙ drop_part c.args.encoding c.loop-rest.rest.now c.min.result c.part_words.result
    c.part_words.ensures c.min.ensures)

pub returns-in_err-fill_part : goal.returns-in_err-fill_part
returns-in_err-fill_part g c =
    let some : 0 < length c.loop-rest.rest.now = grind arith in
    let p = err_from_is_err_and c.from_residual.result c.from_residual.ensures.1 in
    rw (p.1, p.2)
    (filled_broken g.S.FileService.machine c.args.moment c.args.encoding c.args.words.now _ _ _ c.loop-rest.rest.now _ _
    some (c.split_at.ensures.front ∙ take_part c.args.encoding c.loop-rest.rest.now c.min.result c.part_words.result
    c.part_words.ensures c.min.ensures)
    (c.split_at.ensures.back ∙ drop_part c.args.encoding c.loop-rest.rest.now c.min.result c.part_words.result
    c.part_words.ensures c.min.ensures)
    c.loop-rest.invariant c.in_err-fill_part.field-0.0 c.in_err-fill_part.ensures)

pub returns : goal.returns
returns g c =
    let none : length c.loop-rest.rest.now ≡ 0 = grind arith in
    filled_all g.S.FileService.machine c.args.moment c.args.encoding c.args.words.now _ _ c.loop-rest.rest.now none
    c.loop-rest.invariant
