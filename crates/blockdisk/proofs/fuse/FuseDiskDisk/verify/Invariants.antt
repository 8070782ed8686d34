use Rattle.std.proofs.Common.{◌≡◌, ◌≤◌, ◌-◌, Ok, None}
use Rattle.blockdisk.specs.Common.{IsVerify, fused, HavePassed}
use Rattle.blockdisk.proofs.fuse.FuseDiskDisk.verify.Given as goal

abbrev pub invariant-loop-n : goal.invariant-loop-n
invariant-loop-n g l = record {
  verified : IsVerify l.fn.first l.n (fused (g.D.Disk.state l.fn.self.inner) l.fn.self.failures)
      (fused (g.D.Disk.state l.self.inner) l.self.failures) (Ok None);
  none : l.end ≤ l.first → l.n ≡ l.first;
  passed : HavePassed (l.n - l.fn.first) l.fn.self l.self;
  below : (g.D.Disk.state l.self.inner).failures ≡ (g.D.Disk.state l.fn.self.inner).failures;
}
