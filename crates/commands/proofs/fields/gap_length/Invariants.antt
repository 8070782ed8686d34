use Rattle.std.proofs.Common.{take}
use Rattle.spec_language.specs.Common.{Are, is_space}
use Rattle.commands.proofs.fields.gap_length.Given as goal

abbrev pub invariant-loop-i : goal.invariant-loop-i
invariant-loop-i l = Are is_space (take l.i l.text)
