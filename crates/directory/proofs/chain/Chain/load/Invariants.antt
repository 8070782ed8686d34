use Rattle.std.proofs.Common.{◌≡◌, map}
use Rattle.blockdisk.specs.Common.{SameDisk}
use Rattle.changeset.specs.Common.{OnlyReads}
use Rattle.directory.specs.Common.{HasPlaces}
use Rattle.directory.proofs.ChainBlocks.{IsLoading, unmarked}
use Rattle.directory.proofs.chain.Chain.load.Given as goal

abbrev pub invariant-loop-next : goal.invariant-loop-next
invariant-loop-next g l = record {
  same : SameDisk (g.D.Disk.state l.fn.disk) (g.D.Disk.state l.disk);
  served : (g.D.Disk.state l.disk).failures ≡ (g.D.Disk.state l.fn.disk).failures;
  reads : (g.D.Disk.state l.disk).honest → OnlyReads (g.D.Disk.state l.fn.disk) (g.D.Disk.state l.disk);
  places : HasPlaces l.blocks.len l.blocks.cap;
  loading : IsLoading g.E.ChainEntry.order g.E.ChainEntry.words_of g.E.ChainEntry.IsEntry g.E.ChainEntry.target l.size
      (g.D.Disk.state l.disk).honest (g.D.Disk.state l.fn.disk).contents
      l.fn.reached l.reached l.fn.first l.blocks.items (map g.E.ChainEntry.view l.entries) l.next;
}

abbrev pub decreases-loop-next : goal.decreases-loop-next
decreases-loop-next g l = unmarked l.reached
