use Rattle.spec_image.proofs.FileChanges.{renamed_within, renamed_across}
use Rattle.spec_image.proofs.ChangedFiles.{files_renamed_within, files_renamed_across}
use Rattle.spec_image.proofs.changes.files_are_renamed.Goals as goal

pub returns-clause-within : goal.returns-clause-within
returns-clause-within c = renamed_within

pub returns-clause-files_within : goal.returns-clause-files_within
returns-clause-files_within c = files_renamed_within

pub returns-clause-across : goal.returns-clause-across
returns-clause-across c = renamed_across

pub returns-clause-files_across : goal.returns-clause-files_across
returns-clause-files_across c = files_renamed_across
