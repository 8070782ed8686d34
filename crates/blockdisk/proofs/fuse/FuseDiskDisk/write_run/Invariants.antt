use Rattle.std.proofs.Common.{◌≡◌}
use Rattle.blockdisk.specs.Common.{fused, HavePassed, IsPartWrite}
use Rattle.blockdisk.proofs.fuse.FuseDiskDisk.write_run.Given as goal

abbrev pub invariant-loop-place : goal.invariant-loop-place
invariant-loop-place g l = record {
  written : IsPartWrite l.fn.first l.place l.fn.blocks (fused (g.D.Disk.state l.fn.self.inner) l.fn.self.failures)
      (fused (g.D.Disk.state l.self.inner) l.self.failures);
  passed : HavePassed l.place l.fn.self l.self;
  below : (g.D.Disk.state l.self.inner).failures ≡ (g.D.Disk.state l.fn.self.inner).failures;
}
