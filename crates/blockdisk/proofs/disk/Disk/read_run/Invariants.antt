use Rattle.std.proofs.Common.{◌≡◌, length}
use Rattle.blockdisk.specs.Common.{IsPartRead}
use Rattle.blockdisk.proofs.disk.Disk.read_run.Given as goal

abbrev pub invariant-loop-place : goal.invariant-loop-place
invariant-loop-place g l = record {
  read : IsPartRead l.fn.first l.place (g.Self.Disk.state l.fn.self) (g.Self.Disk.state l.self) l.blocks;
  long : length l.blocks ≡ length l.fn.blocks;
}
