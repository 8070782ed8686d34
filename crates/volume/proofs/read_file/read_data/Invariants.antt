use Rattle.std.proofs.Common.{take}
use Rattle.std.specs.List.{AllByRecursion}
use Rattle.blockdisk.specs.Common.{IsWholeBlock}
use Rattle.retrieval.specs.Common.{blocks_of_runs}
use Rattle.volume.specs.Common.{KeepsDisk}
use Rattle.volume.proofs.read_file.read_data.Given as goal

abbrev pub invariant-loop-run : goal.invariant-loop-run
invariant-loop-run g l = record {
  disk : KeepsDisk (g.D.Disk.state l.fn.disk) (g.D.Disk.state l.disk) ⊥;
  whole : (g.D.Disk.state l.disk).honest → AllByRecursion (IsWholeBlock (g.D.Disk.state l.fn.disk).contents)
      (blocks_of_runs (take l.run-index l.run-items));
}
