use Rattle.spec_image.proofs.Settled.{quiet_writes}
use Rattle.spec_image.proofs.laws.quiet_writes.Goals as goal

pub returns : goal.returns
returns c = quiet_writes
