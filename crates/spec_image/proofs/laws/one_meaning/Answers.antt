use Rattle.spec_image.proofs.Settled.{one_meaning}
use Rattle.spec_image.proofs.laws.one_meaning.Goals as goal

pub returns : goal.returns
returns c = one_meaning
