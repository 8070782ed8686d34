use Rattle.spec_image.proofs.Publication.{written_free, superseded}
use Rattle.spec_image.proofs.changes.versions_are_superseded.Goals as goal

pub returns-clause-written : goal.returns-clause-written
returns-clause-written c = written_free

pub returns-clause-stands : goal.returns-clause-stands
returns-clause-stands c = superseded
