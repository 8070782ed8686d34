use Rattle.std.proofs.Common.{◌≤◌, length, Ok, arith}
use Rattle.std.proofs.lemmas.Result.{err_from_is_err_and}
use Rattle.spec_language.specs.Common.{own_file}
use Rattle.commands.specs.Common.{put_plan_as, labels, IsTooLong, most_bytes, words_said}
use Rattle.commands.specs.declared.existing.Existing.TheVariants.{Refuse}
use Rattle.commands.proofs.ErrandLaws.{carried, errand_done, errand_cut, tells_excess, tells_fitting, words_are}
use Rattle.commands.proofs.ImportLaws.{imported, no_words, not_imported}
use Rattle.commands.proofs.import_file.take_in.Goals as goal

pub returns-in_err-said : goal.returns-in_err-said
returns-in_err-said g c =
    let file = c.args.file.now in
    let long : IsTooLong file.encoding file.bytes.now =
    omega (arith, c.most_bytes-most.ensures, c.if-file-most.true) in
    let p = err_from_is_err_and c.from_residual.result c.from_residual.ensures.1 in
    rw (p.1, p.2) (not_imported g.S.FileService.machine _ _ _ _ file.encoding file.label.now file.bytes.now
    (put_plan_as Refuse file.moment file.owner file.encoding (own_file file.name)) _ long c.in_err-said.ensures _
    (λ acts written p. p) tt)

pub returns-then-file-most : goal.returns-then-file-most
returns-then-file-most g c =
    let file = c.args.file.now in
    let long : IsTooLong file.encoding file.bytes.now =
    omega (arith, c.most_bytes-most.ensures, c.if-file-most.true) in
    not_imported g.S.FileService.machine _ _ _ _ file.encoding file.label.now file.bytes.now
    (put_plan_as Refuse file.moment file.owner file.encoding (own_file file.name)) _ long c.in_ok-said.ensures _
    (λ acts written p. p)
    (tells_excess file.encoding file.bytes.now c.most_bytes-most.result c.most_bytes-most.ensures long)

pub returns-in_default : goal.returns-in_default
returns-in_default g c =
    let file = c.args.file.now in
    no_words g.S.FileService.machine g.met.S.FileService.stands _ _ file.encoding file.label.now file.bytes.now
    (put_plan_as Refuse file.moment file.owner file.encoding (own_file file.name))

pub returns-in_err-print : goal.returns-in_err-print
returns-in_err-print g c =
    let file = c.args.file.now in
    let few : length file.bytes.now ≤ most_bytes file.encoding =
    omega (arith, c.most_bytes-most.ensures, c.if-file-most.false) in
    let p = err_from_is_err_and c.from_residual-in_err-print.result c.from_residual-in_err-print.ensures.1 in
    let words = words_said (λ v. v.items) c.in-Ok.words in
    let keeps = put_plan_as Refuse file.moment file.owner file.encoding (own_file file.name) in
    let plan = labels file.label.now (keeps words) in
    rw (p.1, p.2) (imported g.S.FileService.machine _ _ _ _ file.encoding file.label.now file.bytes.now keeps _ words
    few (words_are (λ v. v.items) file.encoding file.bytes.now c.in-Ok.words c.in-Ok.ensures)
    (errand_cut g.S.FileService.machine (λ bytes. bytes.items) c.import_words-text.result _ _ _ _ plan
    c.import_words-text.new.tally c.in_err-print.field-0.0
    (carried g.S.FileService.machine (λ bytes. bytes.items) c.import_words-text.result _ _ plan c.none-tally.result
    c.import_words-text.new.tally c.none-tally.ensures c.import_words-text.ensures) c.in_err-print.ensures) _
    (λ acts written p. p) tt)

pub returns : goal.returns
returns g c =
    let file = c.args.file.now in
    let few : length file.bytes.now ≤ most_bytes file.encoding =
    omega (arith, c.most_bytes-most.ensures, c.if-file-most.false) in
    let words = words_said (λ v. v.items) c.in-Ok.words in
    let keeps = put_plan_as Refuse file.moment file.owner file.encoding (own_file file.name) in
    let plan = labels file.label.now (keeps words) in
    let told = record c.import_words-text.new.tally { reason = c.reason_of-tally.result } in
    imported g.S.FileService.machine _ _ _ _ file.encoding file.label.now file.bytes.now keeps _ words
    few (words_are (λ v. v.items) file.encoding file.bytes.now c.in-Ok.words c.in-Ok.ensures)
    (errand_done g.S.FileService.machine (λ bytes. bytes.items) c.import_words-text.result _ _ _ _ plan
    c.import_words-text.new.tally tt
    (carried g.S.FileService.machine (λ bytes. bytes.items) c.import_words-text.result _ _ plan c.none-tally.result
    c.import_words-text.new.tally c.none-tally.ensures c.import_words-text.ensures) c.in_ok-print.ensures)
    (Ok told) (λ acts written p. p)
    (tells_fitting file.encoding file.bytes.now told few
    (c.reason_of-tally.ensures file.encoding file.bytes.now c.in-Ok.ensures))
