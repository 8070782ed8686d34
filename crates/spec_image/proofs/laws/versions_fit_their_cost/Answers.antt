use Rattle.spec_image.proofs.BitCounts.{size-le-cost}
use Rattle.spec_image.proofs.laws.versions_fit_their_cost.Goals as goal

pub returns : goal.returns
returns c = size-le-cost
