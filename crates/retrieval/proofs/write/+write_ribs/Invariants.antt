use Rattle.std.proofs.Common.{length}
use Rattle.retrieval.proofs.write.+write_ribs.Given as goal

abbrev pub decreases-write_ribs : goal.decreases-write_ribs
decreases-write_ribs g l = length l.ribs.now
