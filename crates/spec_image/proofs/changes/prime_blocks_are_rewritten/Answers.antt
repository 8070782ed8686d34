use Rattle.spec_image.proofs.VersionEdits.{version_rewritten}
use Rattle.spec_image.proofs.changes.prime_blocks_are_rewritten.Goals as goal

pub returns : goal.returns
returns c = version_rewritten
