use Rattle.std.proofs.Common.{◌≡◌, subst, sym, None, nat_eq}
use Rattle.std.specs.Map.{lookup}
use Rattle.blockcache.specs.Cache.{CachedBlocks, AreCached}
use Rattle.blockcache.proofs.CachedContents.{held_without, gone}
use Rattle.blockcache.proofs.cache.Cached.forget.Goals as goal

pub invariant_of-self : goal.invariant_of-self
invariant_of-self g c =
    let contents = (g.D.Disk.state c.args.self.now.inner).contents in
    record {
      coherent = λ h. subst (λ (kept : CachedBlocks). AreCached kept.entries contents)
          (sym c.pop-block.ensures.entries)
          (held_without c.args.self.now.cache contents c.args.n (c.args.self.now.coherent h));
    }

pub returns-clause-none : goal.returns-clause-none
returns-clause-none g c = subst (λ (kept : CachedBlocks). lookup (nat_eq c.args.n) kept.entries ≡ None)
    (sym c.pop-block.ensures.entries) (gone c.args.n c.args.self.now.cache.entries c.len-kept.ensures.valid.0)
