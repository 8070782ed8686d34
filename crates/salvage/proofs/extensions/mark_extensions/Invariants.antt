use Rattle.std.proofs.Common.{◌≡◌}
use Rattle.blockdisk.specs.Common.{SameDisk}
use Rattle.changeset.specs.Common.{OnlyReads}
use Rattle.spec_image.specs.Common.{layout_number}
use Rattle.salvage.proofs.MarkedExtensions.{IsExtending}
use Rattle.salvage.proofs.WalkedChains.{unmarked}
use Rattle.salvage.proofs.extensions.mark_extensions.Given as goal

abbrev pub invariant-loop-next : goal.invariant-loop-next
invariant-loop-next g l = record {
  same : SameDisk (g.D.Disk.state l.fn.disk) (g.D.Disk.state l.disk);
  served : (g.D.Disk.state l.disk).failures ≡ (g.D.Disk.state l.fn.disk).failures;
  reads : (g.D.Disk.state l.disk).honest → OnlyReads (g.D.Disk.state l.fn.disk) (g.D.Disk.state l.disk);
  marking : IsExtending (g.D.Disk.state l.fn.disk).size (layout_number l.fn.layout) (g.D.Disk.state l.disk).honest
      (g.D.Disk.state l.fn.disk).contents l.fn.prime l.fn.marks l.marks l.next;
}

abbrev pub decreases-loop-next : goal.decreases-loop-next
decreases-loop-next g l = unmarked l.marks
