use Rattle.salvage.proofs.NothingLost.{all_saved_on}
use Rattle.salvage.proofs.StandingUnnamed.{nothing_unnamed_on}
use Rattle.salvage.proofs.survey.survey_disk.Goals as goal

pub returns-clause-found : goal.returns-clause-found
returns-clause-found g c h files stands =
    let s = g.D.Disk.state c.args.disk.now in
    all_saved_on s.size s.contents files c.args.search c.survey_volume.result (c.survey_volume.ensures.surveyed h)
    (c.survey_volume.ensures.layout h) stands

pub returns-clause-alone : goal.returns-clause-alone
returns-clause-alone g c h files stands restricted =
    let s = g.D.Disk.state c.args.disk.now in
    nothing_unnamed_on s.size s.contents files c.args.search c.survey_volume.result
    (c.survey_volume.ensures.surveyed h) (c.survey_volume.ensures.layout h) stands restricted
