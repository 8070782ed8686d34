use Rattle.std.proofs.Common.{◌≡◌, ◌≤◌, length, take, flat_map}
use Rattle.spec_image.specs.Common.{run_blocks, RunsInSpace}
use Rattle.retrieval.specs.Common.{runs_of, with_blocks}
use Rattle.retrieval.proofs.runs.push_runs.Given as goal

abbrev pub invariant-loop-word : goal.invariant-loop-word
invariant-loop-word l = record {
  version_is : l.version ≡ with_blocks l.fn.version (flat_map run_blocks (runs_of (take l.word-index l.pointers)));
  room : length l.version.blocks ≤ l.limit;
  inside : RunsInSpace l.size (runs_of (take l.word-index l.pointers));
}
