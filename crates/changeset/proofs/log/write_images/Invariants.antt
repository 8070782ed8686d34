use Rattle.std.proofs.Common.{◌≡◌, ◌+◌, ◌<◌, ◌≤◌, length, take}
use Rattle.blockdisk.specs.Common.{Modifies, SameDisk}
use Rattle.spec_image.specs.Common.{AreImages, log_start}
use Rattle.changeset.proofs.log.write_images.Given as goal

abbrev pub invariant-loop-i : goal.invariant-loop-i
invariant-loop-i g l = record {
  same : SameDisk (g.D.Disk.state l.initial.disk) (g.D.Disk.state l.disk);
  served : (g.D.Disk.state l.disk).failures ≡ (g.D.Disk.state l.initial.disk).failures;
  modified : (g.D.Disk.state l.disk).honest
      → Modifies (λ n. (log_start ≤ n) × (n < log_start + length l.puts)) (g.D.Disk.state l.initial.disk)
      (g.D.Disk.state l.disk);
  images : (g.D.Disk.state l.disk).honest → AreImages (g.D.Disk.state l.disk).contents log_start (take l.i l.puts);
}
