use Rattle.std.proofs.Common.{◌≡◌, length}
use Rattle.blockdisk.specs.Common.{SameDisk}
use Rattle.changeset.specs.Common.{OnlyReads}
use Rattle.alloctab.specs.Common.{word_bit, IsClearFrom}
use Rattle.alloctab.proofs.TableBlocks.{IsTableBelow}
use Rattle.alloctab.proofs.load.read_table.Given as goal

abbrev pub invariant-loop-i : goal.invariant-loop-i
invariant-loop-i g l = record {
  same : SameDisk (g.D.Disk.state l.fn.disk) (g.D.Disk.state l.disk);
  served : (g.D.Disk.state l.disk).failures ≡ (g.D.Disk.state l.fn.disk).failures;
  reads : (g.D.Disk.state l.disk).honest → OnlyReads (g.D.Disk.state l.fn.disk) (g.D.Disk.state l.disk);
  long : length l.set ≡ length l.fn.set;
  past : IsClearFrom (g.D.Disk.state l.fn.disk).size l.fn.set → IsClearFrom (g.D.Disk.state l.fn.disk).size l.set;
  read : (g.D.Disk.state l.disk).honest
      → IsTableBelow l.i (g.D.Disk.state l.fn.disk).size (g.D.Disk.state l.fn.disk).contents (word_bit l.set);
}
