use Rattle.std.proofs.Common.{◌≡◌, ◌-◌, ◌∷◌, ◌++◌, length, take, replicate}
use Rattle.words36.specs.Common.{join}
use Rattle.spec_image.specs.Common.{extension_half}
use Rattle.retrieval.proofs.BuiltPointers.{pointers}
use Rattle.retrieval.proofs.write.extension_of.Given as goal

abbrev pub invariant-loop-i : goal.invariant-loop-i
invariant-loop-i l = l.words ≡ join extension_half (length l.runs) ∷ l.next
    ∷ (pointers (take l.i l.runs) ++ replicate (126 - l.i) 0)
