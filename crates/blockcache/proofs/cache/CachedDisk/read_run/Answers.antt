use Rattle.std.specs.Map.{lookup}
use Rattle.std.proofs.Common.{nat_eq}
use Rattle.blockcache.proofs.Recalled.{run_recalled}
use Rattle.blockcache.proofs.cache.CachedDisk.read_run.Goals as goal

pub returns-clause-recalled : goal.returns-clause-recalled
returns-clause-recalled g c one =
    run_recalled (lookup (nat_eq c.args.first) c.args.self.now.cache.entries) c.args.blocks.now c.in-Ok.block one _ _
    c.in-Ok.ensures.recalled
