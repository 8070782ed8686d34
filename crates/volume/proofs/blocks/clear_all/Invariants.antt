use Rattle.std.proofs.Common.{take}
use Rattle.volume.specs.Common.{ClearsBits}
use Rattle.volume.proofs.blocks.clear_all.Given as goal

abbrev pub invariant-loop-block : goal.invariant-loop-block
invariant-loop-block l = ClearsBits l.fn.table l.table (take l.block-index l.blocks)
