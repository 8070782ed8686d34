use Rattle.spec_image.proofs.FileChanges.{removed}
use Rattle.spec_image.proofs.ChangedFiles.{files_removed}
use Rattle.spec_image.proofs.changes.files_are_removed.Goals as goal

pub returns-clause-stands : goal.returns-clause-stands
returns-clause-stands c = removed

pub returns-clause-files : goal.returns-clause-files
returns-clause-files c = files_removed
