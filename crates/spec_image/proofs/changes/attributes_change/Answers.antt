use Rattle.spec_image.proofs.FileChanges.{attributes_changed}
use Rattle.spec_image.proofs.ChangedFiles.{files_attributes}
use Rattle.spec_image.proofs.changes.attributes_change.Goals as goal

pub returns-clause-stands : goal.returns-clause-stands
returns-clause-stands c = attributes_changed

pub returns-clause-files : goal.returns-clause-files
returns-clause-files c = files_attributes
