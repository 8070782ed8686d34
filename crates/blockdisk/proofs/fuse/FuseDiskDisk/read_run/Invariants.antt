use Rattle.std.proofs.Common.{◌≡◌, length}
use Rattle.blockdisk.specs.Common.{fused, HavePassed, IsPartRead}
use Rattle.blockdisk.proofs.fuse.FuseDiskDisk.read_run.Given as goal

abbrev pub invariant-loop-place : goal.invariant-loop-place
invariant-loop-place g l = record {
  read : IsPartRead l.fn.first l.place (fused (g.D.Disk.state l.fn.self.inner) l.fn.self.failures)
      (fused (g.D.Disk.state l.self.inner) l.self.failures) l.blocks;
  long : length l.blocks ≡ length l.fn.blocks;
  passed : HavePassed l.place l.fn.self l.self;
  below : (g.D.Disk.state l.self.inner).failures ≡ (g.D.Disk.state l.fn.self.inner).failures;
}
