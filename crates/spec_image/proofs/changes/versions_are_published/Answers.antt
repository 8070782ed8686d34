use Rattle.spec_image.proofs.FileChanges.{published}
use Rattle.spec_image.proofs.ChangedFiles.{files_published}
use Rattle.spec_image.proofs.changes.versions_are_published.Goals as goal

pub returns-clause-stands : goal.returns-clause-stands
returns-clause-stands c = published

pub returns-clause-files : goal.returns-clause-files
returns-clause-files c = files_published
