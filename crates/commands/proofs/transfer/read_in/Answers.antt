use Rattle.std.proofs.Common.{◌≤◌, ℕ, List, length, Ok, subst, arith}
use Rattle.std.proofs.lemmas.Result.{err_from_is_err_and}
use Rattle.spec_language.specs.Common.{own_file}
use Rattle.commands.specs.Common.{put_plan_as, HasWords, IsTooLong, most_bytes, words_said}
use Rattle.commands.proofs.ErrandLaws.{carried, errand_done, errand_cut, delivered, undelivered, unread_by, excessive}
use Rattle.commands.proofs.ErrandLaws.{memory_unread, tells_excess, tells_fitting, words_are}
use Rattle.commands.proofs.InputLaws.{not_longer}
use Rattle.commands.proofs.transfer.read_in.Goals as goal

pub returns-in_err-bytes : goal.returns-in_err-bytes
returns-in_err-bytes g c =
    let file = c.args.file.now in
    let keeps = put_plan_as file.existing c.args.moment file.owner file.encoding (own_file file.name) in
    let p = err_from_is_err_and c.from_residual.result c.from_residual.ensures.1 in
    undelivered g.S.FileService.machine g.met.S.FileService.stands _ _ _ _ file.encoding
    keeps c.from_residual.result c.in_err-bytes.ensures.taken.0
    c.in_err-bytes.ensures.taken.1 (rw (p.1, p.2) (unread_by c.in_err-bytes.field-0.0 c.in_err-bytes.ensures.err))

pub returns-in_default : goal.returns-in_default
returns-in_default g c =
    let file = c.args.file.now in
    let keeps = put_plan_as file.existing c.args.moment file.owner file.encoding (own_file file.name) in
    undelivered g.S.FileService.machine g.met.S.FileService.stands _ _ _ _ file.encoding
    keeps _ c.in_ok-bytes.bytes.items
    c.in_ok-bytes.ensures.ok memory_unread

pub returns-in_err-said : goal.returns-in_err-said
returns-in_err-said g c =
    let file = c.args.file.now in
    let keeps = put_plan_as file.existing c.args.moment file.owner file.encoding (own_file file.name) in
    let long : IsTooLong file.encoding c.in_ok-bytes.bytes.items =
    omega (arith, c.in_ok-bytes.bytes.ok, c.len.ensures, c.most_bytes-most.ensures, c.if-len-most.true) in
    let p = err_from_is_err_and c.from_residual-in_err-said.result c.from_residual-in_err-said.ensures.1 in
    rw (p.1, p.2) (excessive g.S.FileService.machine _ _ _ _ _ _ file.encoding
    keeps _ c.in_ok-bytes.bytes.items
    c.in_ok-bytes.ensures.ok long c.in_err-said.ensures _ (λ acts written p. p) tt)

pub returns-then-len-most : goal.returns-then-len-most
returns-then-len-most g c =
    let file = c.args.file.now in
    let keeps = put_plan_as file.existing c.args.moment file.owner file.encoding (own_file file.name) in
    let long : IsTooLong file.encoding c.in_ok-bytes.bytes.items =
    omega (arith, c.in_ok-bytes.bytes.ok, c.len.ensures, c.most_bytes-most.ensures, c.if-len-most.true) in
    excessive g.S.FileService.machine _ _ _ _ _ _ file.encoding
    keeps _ c.in_ok-bytes.bytes.items
    c.in_ok-bytes.ensures.ok long c.in_ok-said.ensures _ (λ acts written p. p)
    (tells_excess file.encoding c.in_ok-bytes.bytes.items c.most_bytes-most.result c.most_bytes-most.ensures long)

pub returns-in_err-print : goal.returns-in_err-print
returns-in_err-print g c =
    let file = c.args.file.now in
    let keeps = put_plan_as file.existing c.args.moment file.owner file.encoding (own_file file.name) in
    let few : length c.in_ok-bytes.bytes.items ≤ most_bytes file.encoding =
    omega (arith, c.in_ok-bytes.bytes.ok, c.len.ensures, c.most_bytes-most.ensures, c.if-len-most.false) in
    let p = err_from_is_err_and c.from_residual-in_err-print.result c.from_residual-in_err-print.ensures.1 in
    let words = words_said (λ v. v.items) c.in-Ok.words in
    let plan = keeps words in
    rw (p.1, p.2) (delivered g.S.FileService.machine _ _ _ _ _ _ file.encoding
    keeps _ c.in_ok-bytes.bytes.items words
    c.in_ok-bytes.ensures.ok (not_longer _ _ c.in_ok-bytes.ensures.end few) few
    (words_are (λ v. v.items) file.encoding c.in_ok-bytes.bytes.items c.in-Ok.words
    (subst (λ (l : List ℕ). HasWords (λ v. v.items) file.encoding l c.in-Ok.words) c.deref.ensures.value
    c.in-Ok.ensures))
    (errand_cut g.S.FileService.machine (λ bytes. bytes.items) c.put_words-text.result _ _ _ _ plan
    c.put_words-text.new.tally c.in_err-print.field-0.0
    (carried g.S.FileService.machine (λ bytes. bytes.items) c.put_words-text.result _ _ plan c.none-tally.result
    c.put_words-text.new.tally c.none-tally.ensures c.put_words-text.ensures) c.in_err-print.ensures) _
    (λ acts written p. p) tt)

pub returns : goal.returns
returns g c =
    let file = c.args.file.now in
    let keeps = put_plan_as file.existing c.args.moment file.owner file.encoding (own_file file.name) in
    let few : length c.in_ok-bytes.bytes.items ≤ most_bytes file.encoding =
    omega (arith, c.in_ok-bytes.bytes.ok, c.len.ensures, c.most_bytes-most.ensures, c.if-len-most.false) in
    let words = words_said (λ v. v.items) c.in-Ok.words in
    let plan = keeps words in
    delivered g.S.FileService.machine _ _ _ _ _ _ file.encoding
    keeps _ c.in_ok-bytes.bytes.items words
    c.in_ok-bytes.ensures.ok (not_longer _ _ c.in_ok-bytes.ensures.end few) few
    (words_are (λ v. v.items) file.encoding c.in_ok-bytes.bytes.items c.in-Ok.words
    (subst (λ (l : List ℕ). HasWords (λ v. v.items) file.encoding l c.in-Ok.words) c.deref.ensures.value
    c.in-Ok.ensures))
    (errand_done g.S.FileService.machine (λ bytes. bytes.items) c.put_words-text.result _ _ _ _ plan
    c.put_words-text.new.tally tt
    (carried g.S.FileService.machine (λ bytes. bytes.items) c.put_words-text.result _ _ plan c.none-tally.result
    c.put_words-text.new.tally c.none-tally.ensures c.put_words-text.ensures) c.in_ok-print.ensures)
    (Ok (record c.put_words-text.new.tally { reason = c.reason_of-tally.result })) (λ acts written p. p)
    (tells_fitting file.encoding c.in_ok-bytes.bytes.items
    (record c.put_words-text.new.tally { reason = c.reason_of-tally.result }) few
    (c.reason_of-tally.ensures file.encoding c.in_ok-bytes.bytes.items
    (subst (λ (l : List ℕ). HasWords (λ v. v.items) file.encoding l c.in-Ok.words) c.deref.ensures.value
    c.in-Ok.ensures)))
