use Rattle.std.proofs.Common.{◌≡◌, ℕ, ◌+◌, map, take, length}
use Rattle.std.specs.List.{AllByRecursion}
use Rattle.spec_image.specs.Common.{layout_number, total}
use Rattle.alloctab.specs.Common.{digit_at}
use Rattle.volume.specs.Common.{KeepsDisk, master_view, known_directory, reaches_in_known, IsWholeDirectory}
use Rattle.volume.specs.Common.{IsOnlySpace, AreDirectoriesRead}
use Rattle.volume.proofs.read.read_directories.Given as goal

abbrev pub invariant-loop-entry : goal.invariant-loop-entry
invariant-loop-entry g l = record {
  disk : KeepsDisk (g.D.Disk.state l.fn.disk) (g.D.Disk.state l.disk) ⊥;
  marks : length l.reached ≡ length l.fn.reached;
  space : IsOnlySpace (g.D.Disk.state l.fn.disk).size l.fn.reached
      → IsOnlySpace (g.D.Disk.state l.fn.disk).size l.reached;
  aligned : length l.directories.items ≡ l.entry-index;
  whole : AllByRecursion (IsWholeDirectory (g.D.Disk.state l.fn.disk).size) (map known_directory l.directories.items);
  marked : (n : ℕ) → digit_at l.reached n
      ≡ digit_at l.fn.reached n + total (reaches_in_known n) (map known_directory l.directories.items);
  read : (g.D.Disk.state l.disk).honest
      → AreDirectoriesRead (layout_number l.layout) (g.D.Disk.state l.fn.disk).contents
      (map master_view (take l.entry-index l.entries))
      (map known_directory l.directories.items) (digit_at l.fn.reached) (digit_at l.reached);
}
