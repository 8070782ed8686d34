use Rattle.std.proofs.Common.{take}
use Rattle.volume.specs.Common.{ClearsBits}
use Rattle.volume.proofs.blocks.clear_blocks.Given as goal

abbrev pub invariant-loop-i : goal.invariant-loop-i
invariant-loop-i l = ClearsBits l.fn.table l.table (take l.i l.version.blocks)
