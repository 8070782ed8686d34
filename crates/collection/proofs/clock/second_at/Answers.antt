use Rattle.std.proofs.Common.{rules, ◌≡◌, pos, arith, ◌-ℤ◌, ◌*ℤ◌}
use Rattle.jiff_core.specs.DateTime.{civil_nanos}
use Rattle.jiff_core.specs.Timestamp.{nanos_of_seconds}
use Rattle.jiff_core.proofs.SignedLemmas.{signed_arith}
use Rattle.collection.proofs.ClockLaws.{seconds_back}
use Rattle.collection.proofs.clock.second_at.Goals as goal

pub returns-else-from-instant-clause-none : goal.returns-else-from-instant-clause-none
returns-else-from-instant-clause-none c = λ second is near.
    let nanos = c.in_ok-instant.instant.nanosecond in
    let shows : nanos ≡ civil_nanos c.args.shown -ℤ nanos_of_seconds (pos 0) = search rules in
    let whole : nanos ≡ second *ℤ pos 1_000_000_000 = omega (arith, signed_arith, shows, is) in
    c.if-from-instant.false
    (seconds_back nanos c.in_ok-second.second c.from.result second whole near (search rules) (search rules))
