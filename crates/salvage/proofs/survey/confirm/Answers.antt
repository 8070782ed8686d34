use Rattle.std.proofs.Common.{refl}
use Rattle.spec_image.specs.Common.{files_of}
use Rattle.salvage.proofs.survey.confirm.Goals as goal

pub returns-in-Ok-clause-silent : goal.returns-in-Ok-clause-silent
returns-in-Ok-clause-silent g c h none =
    let held = c.in-Ok.ensures.held h in (files_of held.0, (held.0, held.1.stands, refl))
