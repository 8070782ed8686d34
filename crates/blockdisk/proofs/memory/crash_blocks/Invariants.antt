use Rattle.std.proofs.Common.{◌≡◌, ◌<◌, ◌≤◌, ℕ, length}
use Rattle.blockdisk.specs.Common.{left_in, held}
use Rattle.blockdisk.proofs.memory.crash_blocks.Given as goal

abbrev pub invariant-loop-n : goal.invariant-loop-n
invariant-loop-n l = record {
  done : (k : ℕ) → k < l.n
      → held l.blocks.items k ≡ left_in l.pick l.fn.blocks.items l.first.items l.calls.items l.opened.items k;
  rest : (k : ℕ) → l.n ≤ k → held l.blocks.items k ≡ held l.fn.blocks.items k;
  long : length l.blocks.items ≡ length l.fn.blocks.items;
}
