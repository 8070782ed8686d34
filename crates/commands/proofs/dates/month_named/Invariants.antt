use Rattle.commands.proofs.DayLaws.{IsNoMonth}
use Rattle.commands.proofs.dates.month_named.Given as goal

abbrev pub invariant-loop-month : goal.invariant-loop-month
invariant-loop-month l = IsNoMonth l.text l.month
