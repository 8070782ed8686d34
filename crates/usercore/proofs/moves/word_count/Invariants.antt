use Rattle.std.proofs.Common.{◌≡◌, ◌+◌, drop}
use Rattle.spec_machine.specs.Common.{word_count}
use Rattle.usercore.proofs.moves.word_count.Given as goal

abbrev pub invariant-loop-area : goal.invariant-loop-area
invariant-loop-area l = l.count + word_count (drop l.area-index l.areas) ≡ word_count l.areas
