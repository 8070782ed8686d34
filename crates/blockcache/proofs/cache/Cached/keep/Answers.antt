use Rattle.blockcache.proofs.CachedContents.{held_kept, put_or_not}
use Rattle.blockcache.proofs.cache.Cached.keep.Goals as goal

pub invariant_of-self : goal.invariant_of-self
invariant_of-self g c = record {
  coherent = λ h. held_kept c.args.self.now.cache c.put-kept.new.self (g.D.Disk.state c.args.self.now.inner).contents
      c.args.n c.args.block.now
      (put_or_not c.put-kept.result c.args.self.now.cache c.put-kept.new.self c.args.n c.args.block.now
      c.put-kept.ensures.entries c.put-kept.ensures.err) (c.args.self.now.coherent h) (c.requires h);
}

pub returns-clause-kept : goal.returns-clause-kept
returns-clause-kept g c =
    put_or_not c.put-kept.result c.args.self.now.cache c.put-kept.new.self c.args.n c.args.block.now
    c.put-kept.ensures.entries c.put-kept.ensures.err
