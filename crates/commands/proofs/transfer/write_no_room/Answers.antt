use Rattle.std.proofs.Common.{refl}
use Rattle.std.proofs.lemmas.Result.{err_from_is_err_and}
use Rattle.std.specs.Prelude.{codes}
use Rattle.commands.specs.Common.{no_room}
use Rattle.commands.proofs.ErrandLaws.{carried, errand_done, errand_cut, refused_words}
use Rattle.commands.proofs.transfer.write_no_room.Goals as goal

pub returns-in_err-print : goal.returns-in_err-print
returns-in_err-print g c =
    let p = err_from_is_err_and c.from_residual.result c.from_residual.ensures.1 in
    rw (p.1, p.2) (errand_cut g.S.FileService.machine (λ bytes. bytes.items) c.refuse-text.result _ _ _ _
    no_room c.refuse-text.new.tally c.in_err-print.field-0.0
    (carried g.S.FileService.machine (λ bytes. bytes.items) c.refuse-text.result _ _
    no_room c.none-tally.result c.refuse-text.new.tally c.none-tally.ensures
    (refused_words g.S.FileService.machine g.met.S.FileService.stands (λ bytes. bytes.items) c.refuse-text.result _
    c.none-tally.result c.refuse-text.new.tally (codes "?No room") (codes "?No room") refl
    c.refuse-text.ensures.refused c.refuse-text.ensures.broke
    c.refuse-text.ensures.reason c.refuse-text.ensures.text)) c.in_err-print.ensures)

pub returns : goal.returns
returns g c =
    errand_done g.S.FileService.machine (λ bytes. bytes.items) c.refuse-text.result _ _ _ _
    no_room c.refuse-text.new.tally tt
    (carried g.S.FileService.machine (λ bytes. bytes.items) c.refuse-text.result _ _
    no_room c.none-tally.result c.refuse-text.new.tally c.none-tally.ensures
    (refused_words g.S.FileService.machine g.met.S.FileService.stands (λ bytes. bytes.items) c.refuse-text.result _
    c.none-tally.result c.refuse-text.new.tally (codes "?No room") (codes "?No room") refl
    c.refuse-text.ensures.refused c.refuse-text.ensures.broke
    c.refuse-text.ensures.reason c.refuse-text.ensures.text)) c.in_ok-print.ensures
