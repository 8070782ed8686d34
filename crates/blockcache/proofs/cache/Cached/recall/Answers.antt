use Rattle.std.proofs.Common.{◌∙◌, subst, sym}
use Rattle.blockcache.specs.Cache.{CachedBlocks, AreCached}
use Rattle.blockcache.proofs.CachedContents.{held_used, used_missed}
use Rattle.blockcache.proofs.cache.Cached.recall.Goals as goal

pub invariant_of-self : goal.invariant_of-self
invariant_of-self g c =
    let contents = (g.D.Disk.state c.args.self.now.inner).contents in
    record {
      coherent = λ h. subst (λ (kept : CachedBlocks). AreCached kept.entries contents)
          (sym c.get.follows.holds-at-none)
          (held_used c.args.self.now.cache contents c.args.n (c.args.self.now.coherent h));
    }

pub returns-clause-missed : goal.returns-clause-missed
returns-clause-missed g c none = c.get.follows.holds-at-none ∙ used_missed c.args.self.now.cache c.args.n none
