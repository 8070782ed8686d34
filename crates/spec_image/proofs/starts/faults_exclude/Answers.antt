use Rattle.spec_image.proofs.ExcludedFiles.{fault_excludes}
use Rattle.spec_image.proofs.starts.faults_exclude.Goals as goal

pub returns : goal.returns
returns c = fault_excludes
