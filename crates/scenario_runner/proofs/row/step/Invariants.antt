use denote.Text.{Utf8}
use denote.Shadow.{shadow}
use Rattle.scenario_runner.proofs.row.step.Given as goal

-- says that each `&str` the loop changes is text: keep it, and add clauses with ×
abbrev pub invariant-loop-other : goal.invariant-loop-other
invariant-loop-other l = shadow (Utf8 l.chosen)
