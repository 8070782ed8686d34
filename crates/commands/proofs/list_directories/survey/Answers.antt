use Rattle.spec_language.specs.Common.{directories_plan, silent}
use Rattle.commands.proofs.SurveyLaws.{survey_carried, survey_refused}
use Rattle.commands.proofs.list_directories.survey.Goals as goal

pub returns-in-Ok : goal.returns-in-Ok
returns-in-Ok g c = survey_carried g.S.FileService.machine (λ bytes. bytes.items) c.show_all.result _ _ _
    c.args.moment c.args.style c.args.owners.now c.args.tally.now c.show_all.new.tally c.operator.result
    c.operator.ensures
    c.requires c.show_all.ensures.reason
    (c.in-Ok.ensures c.args.moment (directories_plan c.args.style c.args.owners.now silent)) c.show_all.ensures.ok
    c.show_all.ensures.err

pub returns-in-Err : goal.returns-in-Err
returns-in-Err g c = survey_refused g.S.FileService.machine (λ bytes. bytes.items) c.conclude.result _ _ _
    c.args.moment c.args.style c.args.owners.now c.args.tally.now c.conclude.new.tally c.operator.result
    c.operator.ensures
    c.in-Err.reply c.requires (c.in-Err.ensures c.args.moment (directories_plan c.args.style c.args.owners.now silent))
    c.conclude.ensures
