use Rattle.std.proofs.Common.{◌≡◌, [], length, map, take, nat_cmp}
use Rattle.std.specs.List.{AllByRecursion}
use Rattle.blockdisk.specs.Common.{SameDisk}
use Rattle.changeset.specs.Common.{OnlyReads}
use Rattle.spec_image.specs.Common.{SpecMasterEntry, layout_number, EachOnce, IsDirectoryNamed}
use Rattle.volume.specs.Common.{master_view}
use Rattle.salvage.specs.Common.{AreMarkedTo, AreOwners, IsReadTo, FitsDisk}
use Rattle.salvage.proofs.tree.add_directories.Given as goal

abbrev pub invariant-loop-entry : goal.invariant-loop-entry
invariant-loop-entry g l = record {
  same : SameDisk (g.D.Disk.state l.fn.disk) (g.D.Disk.state l.disk);
  served : (g.D.Disk.state l.disk).failures ≡ (g.D.Disk.state l.fn.disk).failures;
  reads : (g.D.Disk.state l.disk).honest → OnlyReads (g.D.Disk.state l.fn.disk) (g.D.Disk.state l.disk);
  fits : AllByRecursion (FitsDisk (g.D.Disk.state l.fn.disk).size) l.fn.reading.files.items
      → AllByRecursion (FitsDisk (g.D.Disk.state l.fn.disk).size) l.reading.files.items;
  held : AreOwners l.fn.reading.owners l.fn.reading.files.items
      → AreOwners l.reading.owners l.reading.files.items;
  owners : length l.reading.owners ≡ length l.fn.reading.owners;
  long : length l.marks ≡ length l.fn.marks;
  marked : (g.D.Disk.state l.disk).honest → AreMarkedTo (g.D.Disk.state l.fn.disk).size
      (g.D.Disk.state l.fn.disk).contents (map master_view (take l.entry-index l.entries)) l.marks;
  read : (g.D.Disk.state l.disk).honest → AreOwners l.fn.reading.owners l.fn.reading.files.items
      → AllByRecursion (λ (e : SpecMasterEntry). IsDirectoryNamed (g.D.Disk.state l.fn.disk).size
      (g.D.Disk.state l.fn.disk).contents (layout_number l.layout) e.0 e.1.0 e.1.1) (map master_view l.entries)
      → EachOnce nat_cmp (map master_view l.entries)
      → IsReadTo (g.D.Disk.state l.fn.disk).size (layout_number l.layout) (g.D.Disk.state l.fn.disk).contents
      [] 0 [] l.fn.reading.files.items l.fn.reading.findings.items
      → IsReadTo (g.D.Disk.state l.fn.disk).size (layout_number l.layout) (g.D.Disk.state l.fn.disk).contents
      (map master_view (take l.entry-index l.entries)) 0 [] l.reading.files.items l.reading.findings.items;
}
