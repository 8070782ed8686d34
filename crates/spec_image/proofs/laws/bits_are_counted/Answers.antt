use Rattle.spec_image.proofs.BitCounts.{set_bits}
use Rattle.spec_image.proofs.laws.bits_are_counted.Goals as goal

pub returns : goal.returns
returns c = set_bits
