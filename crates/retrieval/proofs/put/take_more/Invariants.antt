use Rattle.std.proofs.Common.{◌≤◌, ◌+◌}
use Rattle.retrieval.specs.Common.{GrowsBy}
use Rattle.retrieval.proofs.put.take_more.Given as goal

abbrev pub invariant-loop : goal.invariant-loop
invariant-loop l = record {
  grown : GrowsBy l.fn.table l.table l.fn.blocks.blocks l.blocks.blocks l.counter;
  spare : l.fn.blocks.spare ≤ l.blocks.spare + l.counter;
}
