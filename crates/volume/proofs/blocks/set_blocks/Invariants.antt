use Rattle.std.proofs.Common.{take}
use Rattle.volume.specs.Common.{SetsBits}
use Rattle.volume.proofs.blocks.set_blocks.Given as goal

abbrev pub invariant-loop-i : goal.invariant-loop-i
invariant-loop-i l = SetsBits l.fn.table l.table (take l.i l.version.blocks)
