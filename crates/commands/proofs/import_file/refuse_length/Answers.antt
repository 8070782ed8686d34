use Rattle.std.proofs.Common.{◌≡◌, ◌++◌, ℕ, List, IfOk, refl, subst}
use Rattle.std.proofs.lemmas.Result.{err_from_is_err_and}
use Rattle.std.specs.Prelude.{codes}
use Rattle.commands.specs.Common.{no_room}
use Rattle.commands.proofs.ErrandLaws.{refused_words}
use Rattle.commands.proofs.ImportLaws.{label_lost, labelled}
use Rattle.commands.proofs.import_file.refuse_length.Goals as goal

pub returns-in_err-text : goal.returns-in_err-text
returns-in_err-text g c =
    let p = err_from_is_err_and c.from_residual.result c.from_residual.ensures.1 in
    label_lost g.S.FileService.machine (λ bytes. bytes.items) c.args.label.now _ _ no_room c.args.tally.now
    c.refuse.new.tally c.refuse.result c.from_residual.result _ p.1
    (refused_words g.S.FileService.machine g.met.S.FileService.stands (λ bytes. bytes.items) c.refuse.result _
    c.args.tally.now c.refuse.new.tally (codes "?No room") (codes "?No room") refl
    c.refuse.ensures.refused c.refuse.ensures.broke c.refuse.ensures.reason c.refuse.ensures.text)

pub returns : goal.returns
returns g c =
    labelled g.S.FileService.machine (λ bytes. bytes.items) c.args.label.now _ _ no_room c.args.tally.now
    c.refuse.new.tally c.in_ok-text.text c.text_behind.result
    (subst (λ (l : List ℕ). IfOk c.text_behind.result (λ line. line.items ≡ c.args.label.now ++ l))
    c.deref.ensures.value c.text_behind.ensures)
    (refused_words g.S.FileService.machine g.met.S.FileService.stands (λ bytes. bytes.items) _ _
    c.args.tally.now c.refuse.new.tally (codes "?No room") (codes "?No room") refl
    c.in_ok-text.ensures.refused c.in_ok-text.ensures.broke c.in_ok-text.ensures.reason c.in_ok-text.ensures.text)
