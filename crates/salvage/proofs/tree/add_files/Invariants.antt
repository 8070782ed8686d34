use Rattle.std.proofs.Common.{◌≡◌, List, [], None, length, map, take, nat_cmp}
use Rattle.std.specs.FinMap.Entries.{find}
use Rattle.std.specs.List.{AllByRecursion}
use Rattle.blockdisk.specs.Common.{SameDisk}
use Rattle.changeset.specs.Common.{OnlyReads}
use Rattle.spec_image.specs.Common.{SpecMasterEntry, name_cmp, layout_number, EachOnce}
use Rattle.volume.specs.Common.{file_view}
use Rattle.salvage.specs.Common.{AreOwners, IsNamedIn, IsReadTo, FitsDisk}
use Rattle.salvage.proofs.tree.add_files.Given as goal

abbrev pub invariant-loop-entry : goal.invariant-loop-entry
invariant-loop-entry g l = record {
  same : SameDisk (g.D.Disk.state l.fn.disk) (g.D.Disk.state l.disk);
  served : (g.D.Disk.state l.disk).failures ≡ (g.D.Disk.state l.fn.disk).failures;
  reads : (g.D.Disk.state l.disk).honest → OnlyReads (g.D.Disk.state l.fn.disk) (g.D.Disk.state l.disk);
  fits : AllByRecursion (FitsDisk (g.D.Disk.state l.fn.disk).size) l.fn.reading.files.items
      → AllByRecursion (FitsDisk (g.D.Disk.state l.fn.disk).size) l.reading.files.items;
  held : AreOwners l.fn.reading.owners l.fn.reading.files.items
      → AreOwners l.reading.owners l.reading.files.items;
  owners : length l.reading.owners ≡ length l.fn.reading.owners;
  read : (g.D.Disk.state l.disk).honest → AreOwners l.fn.reading.owners l.fn.reading.files.items
      → (directories : List SpecMasterEntry)
      → AllByRecursion (IsNamedIn (g.D.Disk.state l.fn.disk).size (layout_number l.layout)
      (g.D.Disk.state l.fn.disk).contents l.ppn) (map file_view l.entries)
      → EachOnce name_cmp (map file_view l.entries) → find nat_cmp l.ppn directories ≡ None
      → IsReadTo (g.D.Disk.state l.fn.disk).size (layout_number l.layout) (g.D.Disk.state l.fn.disk).contents
      directories l.ppn [] l.fn.reading.files.items l.fn.reading.findings.items
      → IsReadTo (g.D.Disk.state l.fn.disk).size (layout_number l.layout) (g.D.Disk.state l.fn.disk).contents
      directories l.ppn (map file_view (take l.entry-index l.entries)) l.reading.files.items l.reading.findings.items;
}
