use Rattle.std.proofs.Common.{take}
use Rattle.commands.proofs.DecimalLaws.{ReadsDecimal}
use Rattle.commands.proofs.fields.decimal_number.Given as goal

abbrev pub invariant-loop-digit : goal.invariant-loop-digit
invariant-loop-digit l = ReadsDecimal l.number (take l.digit-index l.text)
