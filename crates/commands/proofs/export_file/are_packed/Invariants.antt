use Rattle.std.proofs.Common.{length}
use Rattle.commands.proofs.WordBytes.{AreLeft}
use Rattle.commands.proofs.export_file.are_packed.Given as goal

abbrev pub invariant-loop-text : goal.invariant-loop-text
invariant-loop-text l = AreLeft l.fn.text l.fn.words l.text l.words

abbrev pub decreases-loop-text : goal.decreases-loop-text
decreases-loop-text l = length l.text
