use Rattle.blockcache.proofs.CachedContents.{held_beside}
use Rattle.blockcache.proofs.cache.CachedDisk.write.Goals as goal

pub invariant_of-self : goal.invariant_of-self
invariant_of-self g c = record {
  coherent = λ h. held_beside c.forget.new.self.cache.entries (g.D.Disk.state c.forget.new.self.inner).contents
      (g.D.Disk.state c.write.new.self).contents c.args.n
      (c.forget.new.self.coherent (c.write.ensures.same.was_honest h)) c.forget.ensures.none
      (c.write.ensures.writes h).contents;
}
