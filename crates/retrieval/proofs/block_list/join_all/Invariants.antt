use Rattle.std.proofs.Common.{◌≡◌, ◌≤◌, take, drop}
use Rattle.std.specs.Prelude.{vec_len, vec_capacity}
use Rattle.retrieval.specs.Common.{blocks_of_runs, pairs_of, longest_runs}
use Rattle.retrieval.proofs.block_list.join_all.Given as goal

abbrev pub invariant-loop-i : goal.invariant-loop-i
invariant-loop-i l = record {
  joined : pairs_of (take l.kept l.runs.items) ≡ longest_runs (blocks_of_runs (take l.i l.fn.runs.items));
  rest : drop l.i l.runs.items ≡ drop l.i l.fn.runs.items;
  few : l.kept ≤ l.i;
  long : vec_len l.runs ≡ vec_len l.fn.runs;
  capacity : vec_capacity l.runs ≡ vec_capacity l.fn.runs;
}
