use Rattle.std.proofs.Common.{◌≡◌, length}
use Rattle.std.specs.List.{AllByRecursion}
use Rattle.blockdisk.specs.Common.{SameDisk}
use Rattle.changeset.specs.Common.{OnlyReads}
use Rattle.spec_image.specs.Common.{layout_number}
use Rattle.salvage.specs.Common.{AreFound, AreFree, AreLoaded, AreOwned, FitsDisk}
use Rattle.salvage.proofs.scan.look_through.Given as goal

abbrev pub invariant-loop-n : goal.invariant-loop-n
invariant-loop-n g l = record {
  same : SameDisk (g.D.Disk.state l.fn.disk) (g.D.Disk.state l.disk);
  served : (g.D.Disk.state l.disk).failures ≡ (g.D.Disk.state l.fn.disk).failures;
  reads : (g.D.Disk.state l.disk).honest → OnlyReads (g.D.Disk.state l.fn.disk) (g.D.Disk.state l.disk);
  fits : AllByRecursion (FitsDisk (g.D.Disk.state l.fn.disk).size) l.files.items;
  long : length l.marks ≡ (g.D.Disk.state l.fn.disk).size;
  owned : (g.D.Disk.state l.disk).honest → AreOwned (g.D.Disk.state l.fn.disk).size
      (layout_number l.searched.layout) (g.D.Disk.state l.fn.disk).contents l.marks l.n;
  loaded : (g.D.Disk.state l.disk).honest → AreLoaded (g.D.Disk.state l.fn.disk).size
      (layout_number l.searched.layout) (g.D.Disk.state l.fn.disk).contents l.marks l.files.items;
  found : (g.D.Disk.state l.disk).honest
      → AreFree (g.D.Disk.state l.fn.disk).size (g.D.Disk.state l.fn.disk).contents l.searched.free.now
      → AreFound (g.D.Disk.state l.fn.disk).size (layout_number l.searched.layout)
      (g.D.Disk.state l.fn.disk).contents l.searched.search l.searched.counts.now l.files.items
      l.fn.findings.items l.findings.items l.n;
}
