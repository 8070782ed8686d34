use Rattle.std.proofs.Common.{◌≡◌}
use Rattle.spec_image.specs.Common.{count_up}
use Rattle.retrieval.specs.Common.{with_blocks}
use Rattle.retrieval.proofs.runs.push_run.Given as goal

abbrev pub invariant-loop-i : goal.invariant-loop-i
invariant-loop-i l = l.version ≡ with_blocks l.fn.version (count_up l.i l.first)
