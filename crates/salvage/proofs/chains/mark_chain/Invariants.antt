use Rattle.std.proofs.Common.{◌≡◌}
use Rattle.blockdisk.specs.Common.{SameDisk}
use Rattle.changeset.specs.Common.{OnlyReads}
use Rattle.salvage.proofs.WalkedChains.{IsMarking, unmarked}
use Rattle.salvage.proofs.chains.mark_chain.Given as goal

abbrev pub invariant-loop-next : goal.invariant-loop-next
invariant-loop-next g l = record {
  same : SameDisk (g.D.Disk.state l.fn.disk) (g.D.Disk.state l.disk);
  served : (g.D.Disk.state l.disk).failures ≡ (g.D.Disk.state l.fn.disk).failures;
  reads : (g.D.Disk.state l.disk).honest → OnlyReads (g.D.Disk.state l.fn.disk) (g.D.Disk.state l.disk);
  marking : IsMarking g.E.ChainEntry.words_of g.E.ChainEntry.IsEntry (g.D.Disk.state l.fn.disk).size
      (g.D.Disk.state l.disk).honest (g.D.Disk.state l.fn.disk).contents l.fn.first l.fn.marks l.marks l.next;
}

abbrev pub decreases-loop-next : goal.decreases-loop-next
decreases-loop-next g l = unmarked l.marks
