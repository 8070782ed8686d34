use Rattle.std.proofs.Common.{◌≡◌, length, take}
use Rattle.retrieval.specs.Common.{Takes}
use Rattle.retrieval.proofs.write.take_blocks.Given as goal

abbrev pub invariant-loop-i : goal.invariant-loop-i
invariant-loop-i l = record {
  taken : Takes l.initial.table (take l.i l.blocks) l.table;
  long : length l.blocks ≡ length l.initial.blocks;
}
