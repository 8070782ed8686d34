use Rattle.std.proofs.Common.{◌≡◌, ◌<◌, ◌≤◌, ◌-◌, length}
use Rattle.std.specs.List.{AllByRecursion}
use Rattle.spec_image.specs.Common.{InSpace, blocks_of, layout_number}
use Rattle.blockdisk.specs.Common.{SameDisk, Keeps}
use Rattle.retrieval.specs.Common.{IsReadTo}
use Rattle.retrieval.proofs.RibCounts.{AreFilled}
use Rattle.retrieval.proofs.read.read_version.Given as goal

abbrev pub invariant-loop-next : goal.invariant-loop-next
invariant-loop-next g l = record {
  same : SameDisk (g.D.Disk.state l.fn.disk) (g.D.Disk.state l.disk);
  served : (g.D.Disk.state l.disk).failures ≡ (g.D.Disk.state l.fn.disk).failures;
  keeps : (g.D.Disk.state l.disk).honest → Keeps (g.D.Disk.state l.fn.disk) (g.D.Disk.state l.disk);
  next_inside : 0 < l.next → InSpace l.size l.next;
  blocks_inside : AllByRecursion (InSpace l.size) l.version.blocks;
  ribs_inside : AllByRecursion (InSpace l.size) l.version.ribs;
  words : l.version.words ≤ 2097152;
  room : length l.version.blocks ≤ blocks_of l.version.words;
  filled : AreFilled (length l.version.ribs) (length l.version.blocks) l.next;
  read : (g.D.Disk.state l.disk).honest
      → IsReadTo l.size (g.D.Disk.state l.fn.disk).contents (layout_number l.fn.layout) l.at l.prime l.version l.next;
}

abbrev pub decreases-loop-next : goal.decreases-loop-next
decreases-loop-next g l = blocks_of l.version.words - length l.version.blocks
