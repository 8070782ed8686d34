use Rattle.std.proofs.Common.{◌≡◌, ◌++◌, length}
use Rattle.spec_language.specs.Common.{typed}
use Rattle.commands.proofs.export_file.characters_of.Given as goal

abbrev pub invariant-loop-rest : goal.invariant-loop-rest
invariant-loop-rest l = l.text.items ++ typed l.rest ≡ typed l.fn.words

abbrev pub decreases-loop-rest : goal.decreases-loop-rest
decreases-loop-rest l = length l.rest
