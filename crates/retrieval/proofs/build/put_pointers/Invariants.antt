use Rattle.std.proofs.Common.{◌≡◌, ◌-◌, ◌++◌, map, take, replicate}
use Rattle.spec_image.specs.Common.{pointer}
use Rattle.retrieval.specs.Common.{pairs_of}
use Rattle.retrieval.proofs.build.put_pointers.Given as goal

abbrev pub invariant-loop-i : goal.invariant-loop-i
invariant-loop-i l = l.words ≡ take 16 l.fn.words
    ++ (map pointer (pairs_of (take l.i l.runs)) ++ replicate (112 - l.i) 0)
