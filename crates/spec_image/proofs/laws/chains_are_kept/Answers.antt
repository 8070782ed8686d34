use Rattle.spec_image.specs.Directories.{file_words, IsFileEntry, master_words, IsMasterEntry}
use Rattle.spec_image.proofs.Chains.{directory_kept}
use Rattle.spec_image.proofs.laws.chains_are_kept.Goals as goal

pub returns-clause-files : goal.returns-clause-files
returns-clause-files c = directory_kept file_words IsFileEntry

pub returns-clause-master : goal.returns-clause-master
returns-clause-master c = directory_kept master_words IsMasterEntry
