use Rattle.std.proofs.Common.{rules, to_z, w8, w16}
use Rattle.collection.proofs.ClockLaws.{none_has_it}
use Rattle.collection.proofs.clock.calendar_day.Goals as goal

pub returns-in-Err-clause-none : goal.returns-in-Err-clause-none
returns-in-Err-clause-none c = λ wanted at.
    let day = c.in_ok-day.day in
    none_has_it c.args.number day.year day.month day.day (to_z w16 day.year) (to_z w8 day.month) (to_z w8 day.day)
    wanted (search rules) (search rules) (search rules) (search rules) (search rules) (search rules) at
