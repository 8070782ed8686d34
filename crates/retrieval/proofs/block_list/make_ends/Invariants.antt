use Rattle.std.proofs.Common.{◌≡◌, ◌≤◌, length, take}
use Rattle.std.specs.Prelude.{vec_capacity}
use Rattle.retrieval.specs.Common.{blocks_of_runs, pairs_of, ends_of}
use Rattle.retrieval.proofs.block_list.make_ends.Given as goal

abbrev pub invariant-loop-run : goal.invariant-loop-run
invariant-loop-run l = record {
  ends : l.ends.items ≡ ends_of 0 (pairs_of (take l.run-index l.runs));
  end : l.end ≡ length (blocks_of_runs (take l.run-index l.runs));
  capacity : vec_capacity l.fn.ends ≤ vec_capacity l.ends;
}
