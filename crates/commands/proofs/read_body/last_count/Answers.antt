use Rattle.std.proofs.lemmas.Result.{err_from_is_err_and}
use Rattle.commands.proofs.BodyLaws.{size_said, first_failed, second_failed, size_counted}
use Rattle.commands.proofs.read_body.last_count.Goals as goal

pub returns-in-Some-clause-led : goal.returns-in-Some-clause-led
returns-in-Some-clause-led g c =
    size_said g.S.FileService.machine c.args.moment c.args.n c.args.size c.words_said.result c.words_said.ensures
    g.met.S.FileService.stands c.args.service.now c.in-Some.words c.in-Some.is

pub returns-in_err-zeros-clause-led : goal.returns-in_err-zeros-clause-led
returns-in_err-zeros-clause-led g c =
    let p = err_from_is_err_and c.from_residual.result c.from_residual.ensures.1 in
    rw (p.1, p.2)
    (first_failed g.S.FileService.machine c.args.moment c.args.n c.args.size c.words_said.result c.words_said.ensures
    c.in_default.is c.args.service.now c.take_over.new.service c.take_over.result c.take_over.ensures
    c.in_err-zeros.field-0.0 c.in_err-zeros.was)

pub returns-in_err-ones-clause-led : goal.returns-in_err-ones-clause-led
returns-in_err-ones-clause-led g c =
    let p = err_from_is_err_and c.from_residual-in_err-ones.result c.from_residual-in_err-ones.ensures.1 in
    rw (p.1, p.2)
    (second_failed g.S.FileService.machine c.args.moment c.args.n c.args.size c.words_said.result c.words_said.ensures
    c.in_default.is c.args.service.now c.take_over.new.service c.take_over.result c.take_over.ensures
    c.in_ok-zeros.zeros c.in_ok-zeros.was c.take_over-2.new.service c.from_bits.result c.from_bits.ensures
    c.take_over-2.result c.take_over-2.ensures c.in_err-ones.field-0.0 c.in_err-ones.was)

pub returns-clause-led : goal.returns-clause-led
returns-clause-led g c =
    size_counted g.S.FileService.machine c.args.moment c.args.n c.args.size c.words_said.result c.words_said.ensures
    c.in_default.is c.args.service.now c.take_over.new.service c.take_over.result c.take_over.ensures
    c.in_ok-zeros.zeros c.in_ok-zeros.was c.take_over-2.new.service c.from_bits.result c.from_bits.ensures
    c.take_over-2.result c.take_over-2.ensures c.in_ok-ones.ones c.in_ok-ones.was c.same_words.result
    c.same_words.ensures.value
