use Rattle.spec_language.specs.Common.{read_plan, refuses}
use Rattle.spec_language.specs.declared.encoding.Encoding.TheVariants.{Words}
use Rattle.commands.specs.Common.{export_plan}
use Rattle.commands.proofs.ExportLaws.{not_begun, read_behind}
use Rattle.commands.proofs.SurveyLaws.{entered_as}
use Rattle.commands.proofs.export_file.read_any.Goals as goal

pub returns-in-Ok : goal.returns-in-Ok
returns-in-Ok g c =
    let rest = read_plan c.args.moment Words c.args.spec in
    read_behind g.S.FileService.machine (λ v. v.items) _ _ _ (export_plan c.args.moment c.args.spec) rest
    c.read_words.result
    (entered_as g.S.FileService.machine _ _ c.args.moment c.operator.result c.operator.ensures rest _
    (c.in-Ok.ensures c.args.moment rest)) c.read_words.ensures

pub returns-in-Err : goal.returns-in-Err
returns-in-Err g c =
    let rest = read_plan c.args.moment Words c.args.spec in
    not_begun g.S.FileService.machine (λ v. v.items) _ _ _ (export_plan c.args.moment c.args.spec) c.args.moment
    c.in-Err.reply
    (entered_as g.S.FileService.machine _ _ c.args.moment c.operator.result c.operator.ensures rest _
    (c.in-Err.ensures c.args.moment rest)) (c.reset.ensures (refuses c.in-Err.reply))
