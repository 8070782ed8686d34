use Rattle.spec_image.proofs.DirectoryChanges.{directory_removed}
use Rattle.spec_image.proofs.ChangedFiles.{files_without}
use Rattle.spec_image.proofs.changes.directories_are_removed.Goals as goal

pub returns-clause-stands : goal.returns-clause-stands
returns-clause-stands c = directory_removed

pub returns-clause-files : goal.returns-clause-files
returns-clause-files c = files_without
