use Rattle.std.proofs.Common.{◌≡◌, ◌≤◌, ◌<◌, ℕ}
use Rattle.blockdisk.specs.Common.{IsWholeBlock, held}
use Rattle.blockdisk.proofs.memory.MemDiskDisk.verify.Given as goal

abbrev pub invariant-loop-n : goal.invariant-loop-n
invariant-loop-n l = record {
  whole : (n : ℕ) → l.first ≤ n → n < l.n → IsWholeBlock (held l.fn.self.blocks) n;
  same : l.self ≡ l.fn.self;
}
