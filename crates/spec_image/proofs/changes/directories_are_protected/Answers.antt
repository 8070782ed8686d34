use Rattle.spec_image.proofs.DirectoryChanges.{directory_protected}
use Rattle.spec_image.proofs.ChangedFiles.{files_protected}
use Rattle.spec_image.proofs.changes.directories_are_protected.Goals as goal

pub returns-clause-stands : goal.returns-clause-stands
returns-clause-stands c = directory_protected

pub returns-clause-files : goal.returns-clause-files
returns-clause-files c = files_protected
