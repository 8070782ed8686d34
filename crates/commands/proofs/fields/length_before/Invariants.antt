use Rattle.std.proofs.Common.{take}
use Rattle.spec_language.specs.Common.{Are}
use Rattle.commands.specs.Common.{is_other_than}
use Rattle.commands.proofs.fields.length_before.Given as goal

abbrev pub invariant-loop-i : goal.invariant-loop-i
invariant-loop-i l = Are (is_other_than l.mark) (take l.i l.text)
