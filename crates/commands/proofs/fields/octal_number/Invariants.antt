use Rattle.std.proofs.Common.{take}
use Rattle.commands.proofs.NumberLaws.{Reads}
use Rattle.commands.proofs.fields.octal_number.Given as goal

abbrev pub invariant-loop-digit : goal.invariant-loop-digit
invariant-loop-digit l = Reads l.number (take l.digit-index l.text)
