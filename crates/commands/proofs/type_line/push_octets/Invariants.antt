use Rattle.std.proofs.Common.{ℕ, List, take, ◌++◌}
use Rattle.words36.specs.Common.{HasRead}
use Rattle.commands.proofs.type_line.push_octets.Given as goal

abbrev pub invariant-loop-word : goal.invariant-loop-word
invariant-loop-word l =
    (seen : List ℕ) → HasRead l.fn.octets seen → HasRead l.octets (seen ++ take l.word-index l.words)
