use Rattle.spec_image.proofs.DirectoryChanges.{directory_made}
use Rattle.spec_image.proofs.ChangedFiles.{files_made}
use Rattle.spec_image.proofs.changes.directories_are_made.Goals as goal

pub returns-clause-stands : goal.returns-clause-stands
returns-clause-stands c = directory_made

pub returns-clause-files : goal.returns-clause-files
returns-clause-files c = files_made
