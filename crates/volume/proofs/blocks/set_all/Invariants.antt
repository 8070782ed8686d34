use Rattle.std.proofs.Common.{take}
use Rattle.volume.specs.Common.{SetsBits}
use Rattle.volume.proofs.blocks.set_all.Given as goal

abbrev pub invariant-loop-block : goal.invariant-loop-block
invariant-loop-block l = SetsBits l.fn.table l.table (take l.block-index l.blocks)
