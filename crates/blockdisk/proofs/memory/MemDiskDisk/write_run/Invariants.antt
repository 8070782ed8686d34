use Rattle.std.proofs.Common.{◌≡◌, ◌+◌, length, take}
use Rattle.blockdisk.specs.Common.{memory_state, run_written, IsPartWrite}
use Rattle.blockdisk.proofs.memory.MemDiskDisk.write_run.Given as goal

abbrev pub invariant-loop-place : goal.invariant-loop-place
invariant-loop-place l = record {
  made : l.self ≡ run_written l.fn.self l.first (take l.place l.blocks);
  size : length l.self.blocks ≡ length l.fn.self.blocks;
  calls : length l.self.calls ≡ length l.fn.self.calls + l.place;
  room : l.self.room ≡ l.fn.self.room;
  written : IsPartWrite l.fn.first l.place l.fn.blocks (memory_state l.fn.self) (memory_state l.self);
}
