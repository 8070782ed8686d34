use Rattle.std.proofs.Common.{rules, inr}
use Rattle.collection.proofs.clock.moment_of.Goals as goal

-- src/clock.rt:80:1
pub returns-in-Some-clause-some : goal.returns-in-Some-clause-some
returns-in-Some-clause-some c =
    record { shown = c.in_ok-shown.shown; is = search rules; day = search rules; minute = search rules }

-- src/clock.rt:80:1
pub returns-in-None-clause-none : goal.returns-in-None-clause-none
returns-in-None-clause-none c = inr (c.in_ok-shown.shown, search rules, search rules)
