use Rattle.std.proofs.Common.{Ok, subst, sym}
use Rattle.blockdisk.specs.Common.{IsRead}
use Rattle.blockcache.proofs.CachedContents.{held_found}
use Rattle.blockcache.proofs.Recalled.{recalled}
use Rattle.blockcache.proofs.cache.CachedDisk.read.Goals as goal

pub returns-in-Some-clause-reads : goal.returns-in-Some-clause-reads
returns-in-Some-clause-reads g c =
    let s = g.D.Disk.state c.args.self.now.inner in
    subst (λ inner. IsRead c.args.n s (g.D.Disk.state inner) (Ok c.in-Some.block)) (sym c.recall.ensures.inner)
    (recalled c.args.n s c.in-Some.block (λ h. held_found c.args.self.now.cache.entries s.contents c.args.n
    c.in-Some.block (c.args.self.now.coherent h) (sym c.in-Some.ensures.found)))
