use Rattle.std.proofs.Common.{◌≡◌, length, Some}
use Rattle.std.specs.List.{AllByRecursion}
use Rattle.blockdisk.specs.Common.{SameDisk}
use Rattle.spec_image.specs.Common.{IsTarget, targets}
use Rattle.changeset.specs.Common.{AreDistinct, OnlyReads}
use Rattle.changeset.proofs.LogRead.{IsFront}
use Rattle.changeset.proofs.log.read_log.Given as goal

abbrev pub invariant-loop-i : goal.invariant-loop-i
invariant-loop-i g l = record {
  count : length l.puts.items ≡ l.i;
  same : SameDisk (g.D.Disk.state l.fn.disk) (g.D.Disk.state l.disk);
  served : (g.D.Disk.state l.disk).failures ≡ (g.D.Disk.state l.fn.disk).failures;
  reads : (g.D.Disk.state l.disk).honest → OnlyReads (g.D.Disk.state l.fn.disk) (g.D.Disk.state l.disk);
  held : (g.D.Disk.state l.disk).honest → (g.D.Disk.state l.fn.disk).contents 4 ≡ Some l.header;
  distinct : AreDistinct l.puts.items;
  in_range : AllByRecursion (IsTarget l.size) (targets l.puts.items);
  front : (g.D.Disk.state l.disk).honest → IsFront (g.D.Disk.state l.fn.disk).contents l.header l.puts.items;
}
