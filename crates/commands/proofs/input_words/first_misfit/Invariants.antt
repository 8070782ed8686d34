use Rattle.std.proofs.Common.{take}
use Rattle.spec_language.specs.Common.{is_character, Are}
use Rattle.commands.proofs.input_words.first_misfit.Given as goal

abbrev pub invariant-loop-i : goal.invariant-loop-i
invariant-loop-i l = Are is_character (take l.i l.bytes)
