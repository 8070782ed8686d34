use Rattle.collection.proofs.ClockLaws.{minute_begins}
use Rattle.collection.proofs.clock.second_of.Goals as goal

pub returns-in_err-date-clause-none : goal.returns-in_err-date-clause-none
returns-in_err-date-clause-none c =
    rw c.from_residual.ensures (λ second is. c.in_err-date.ensures.none is.shown.date is.day)

pub returns-in_err-second-clause-none : goal.returns-in_err-second-clause-none
returns-in_err-second-clause-none c =
    rw c.from_residual-in_err-second.ensures
    (λ second is. minute_begins (record { date = c.in_ok-date.date; time = c.time_of-time.result }) c.args.moment.date
    c.in_ok-date.ensures.some c.time_of-time.ensures.begins.1 c.in_err-second.ensures.none)
