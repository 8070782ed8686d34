use Rattle.std.proofs.Common.{◌≡◌, ◌++◌, ℕ, List, IfOk, subst}
use Rattle.std.proofs.lemmas.Result.{err_from_is_err_and}
use Rattle.spec_language.specs.Common.{own_file}
use Rattle.commands.specs.Common.{put_plan_as, words_said}
use Rattle.commands.specs.declared.existing.Existing.TheVariants.{Refuse}
use Rattle.commands.proofs.ImportLaws.{label_lost, labelled}
use Rattle.commands.proofs.import_file.import_words.Goals as goal

pub returns-in_err-text : goal.returns-in_err-text
returns-in_err-text g c =
    let p = err_from_is_err_and c.from_residual.result c.from_residual.ensures.1 in
    let file = c.args.file.now in
    label_lost g.S.FileService.machine (λ bytes. bytes.items) file.label.now _ _
    (put_plan_as Refuse file.moment file.owner file.encoding (own_file file.name)
    (words_said (λ v. v.items) c.args.words.now)) c.args.tally.now c.put_words.new.tally c.put_words.result
    c.from_residual.result _ p.1 c.put_words.ensures

pub returns : goal.returns
returns g c =
    let file = c.args.file.now in
    labelled g.S.FileService.machine (λ bytes. bytes.items) file.label.now _ _
    (put_plan_as Refuse file.moment file.owner file.encoding (own_file file.name)
    (words_said (λ v. v.items) c.args.words.now)) c.args.tally.now c.put_words.new.tally c.in_ok-text.text
    c.text_behind.result
    (subst (λ (l : List ℕ). IfOk c.text_behind.result (λ line. line.items ≡ file.label.now ++ l)) c.deref.ensures.value
    c.text_behind.ensures) c.in_ok-text.ensures
