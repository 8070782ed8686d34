use Rattle.std.proofs.Common.{◌≡◌, ◌+◌, ◌<◌, ℕ, Some, [], length, get_or}
use Rattle.blockdisk.specs.Common.{held}
use Rattle.blockdisk.proofs.memory.MemDiskDisk.read_run.Given as goal

abbrev pub invariant-loop-place : goal.invariant-loop-place
invariant-loop-place l = record {
  words : (i : ℕ) → i < l.place → held l.fn.self.blocks (l.first + i) ≡ Some (get_or l.blocks i []);
  long : length l.blocks ≡ length l.fn.blocks;
  same : l.self-inside ≡ l.initial.self-inside;
}
