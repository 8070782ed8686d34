use Rattle.std.proofs.Common.{◌≡◌, ℕ, length}
use Rattle.blockdisk.specs.Common.{SameDisk}
use Rattle.changeset.specs.Common.{OnlyReads}
use Rattle.salvage.specs.Common.{AreAdded}
use Rattle.salvage.proofs.FreeTables.{AreFreeTo}
use Rattle.salvage.proofs.free.find_free.Given as goal

abbrev pub invariant-loop-i : goal.invariant-loop-i
invariant-loop-i g l = record {
  same : SameDisk (g.D.Disk.state l.fn.disk) (g.D.Disk.state l.disk);
  served : (g.D.Disk.state l.disk).failures ≡ (g.D.Disk.state l.fn.disk).failures;
  reads : (g.D.Disk.state l.disk).honest → OnlyReads (g.D.Disk.state l.fn.disk) (g.D.Disk.state l.disk);
  long : length l.free ≡ (g.D.Disk.state l.fn.disk).size;
  marked : (g.D.Disk.state l.disk).honest → AreFreeTo (g.D.Disk.state l.fn.disk).size
      (g.D.Disk.state l.fn.disk).contents l.free l.i;
  added : (g.D.Disk.state l.disk).honest → (layout : ℕ) → AreAdded (g.D.Disk.state l.fn.disk).size layout
      (g.D.Disk.state l.fn.disk).contents l.fn.findings.items l.findings.items;
}
