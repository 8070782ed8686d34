use Rattle.std.proofs.Common.{take}
use Rattle.std.specs.List.{AllByRecursion}
use Rattle.spec_image.specs.Common.{IsRun}
use Rattle.retrieval.specs.Common.{runs_of}
use Rattle.retrieval.proofs.pointers.are_runs.Given as goal

abbrev pub invariant-loop-word : goal.invariant-loop-word
invariant-loop-word l = AllByRecursion IsRun (runs_of (take l.word-index l.words))
