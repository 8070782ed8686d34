use Rattle.std.proofs.Common.{◌≡◌, Some, replicate}
use Rattle.blockdisk.proofs.memory.zero_blocks.Given as goal

abbrev pub invariant-loop-made : goal.invariant-loop-made
invariant-loop-made l = l.blocks.items ≡ replicate l._made (Some (replicate 128 0))
