-- Days and seconds of the calendar that moments have.
use Rattle.std.proofs.Common.{◌≡◌, ℕ, ◌^◌, ◌≤◌, ◌<◌, arith, rules, ap, sym, ◌∙◌, ℤ, pos, neg_ℤ, ◌*ℤ◌, ◌<ℤ◌}
use Rattle.std.proofs.Common.{unsigned_abs, int_div, of_z, to_z, w64}
use Rattle.std.specs.Int.{w128}
use Rattle.jiff_core.specs.declared.civil.date.Date.{Date}
use Rattle.jiff_core.specs.declared.civil.datetime.DateTime.{DateTime}
use Rattle.jiff_core.specs.Calendar.{IsDate as IsInCalendar, IsBetween}
use Rattle.jiff_core.specs.Date.{epoch_day}
use Rattle.jiff_core.specs.DateTime.{civil_seconds}
use Rattle.jiff_core.specs.Timestamp.{IsTimestampNanos}
use Rattle.jiff_core.proofs.SignedLemmas.{back_small, one_part, signed_arith}
use Rattle.jiff_core.proofs.CalendarLemmas.{days_from_civil-day_count, day_count-later_year, day_count-lt_year}
use Rattle.jiff_core.proofs.CalendarLemmas.{day_count-min, day_count-end, days_in_year_bounds, day_count-day_of_year}
use Rattle.jiff_core.proofs.DateLemmas.{civil}
use Rattle.jiff_core.proofs.DateTimeLemmas.{civil_nanos-civil_seconds, civil_nanos-parts, time_nanos_bound}
use Rattle.words36.specs.Common.{IsDate, date_number}
use Rattle.collection.specs.Common.{IsDayAt, IsShownAt}

-- A day that has a number has the year, the month and the day of that number.
parts_same : (number year month day : ℕ) (wanted : Date) → IsDate year month day
    → date_number year month day ≡ number → (at : IsDayAt wanted number)
    → (at.year ≡ year) × (wanted.month ≡ month) × (wanted.day ≡ day)
parts_same number year month day wanted is counts at =
    omega (arith, is, counts, at.date, at.number_is)

pub none_has_it : (number year month day : ℕ) (y m d : ℤ) (wanted : Date) → IsDate year month day
    → date_number year month day ≡ number → y ≡ pos year → m ≡ pos month → d ≡ pos day → (IsInCalendar y m d → ⊥)
    → IsDayAt wanted number → ⊥
none_has_it number year month day y m d wanted is counts year_is month_is day_is none at =
    let same = parts_same number year month day wanted is counts at in
    none (rw (year_is, month_is, day_is, ← same.0, ← same.1, ← same.2, ← at.year_is)
    (search (rules, wanted.year_in, wanted.month_in, wanted.day_in)))

-- Such a day isn't near an end of the calendar.
day_near : (day : Date) (number : ℕ) → IsDayAt day number
    → IsBetween (neg_ℤ (pos 4_371_222)) (pos 2_932_531) (epoch_day day)
day_near day number at =
    let late : at.year ≤ 2052 = omega (arith, at.date) in
    let low : neg_ℤ (pos 9999) <ℤ day.year = omega (arith, signed_arith, at.year_is) in
    let high : day.year <ℤ pos 9999 = omega (arith, signed_arith, at.year_is, late) in
    let first = day_count-later_year (neg_ℤ (pos 9999)) day.year (omega (arith, signed_arith)) low in
    let last = day_count-later_year (pos 9999) (pos 10000) (omega (arith, signed_arith))
    (omega (arith, signed_arith)) in
    let before = day_count-lt_year day.year day.month day.day (pos 9999) 1 1 (civil day) (omega arith) high in
    omega (
      arith,
      signed_arith,
      days_from_civil-day_count day.year day.month day.day,
      first,
      last,
      before,
      day_count-min,
      day_count-end,
      days_in_year_bounds (neg_ℤ (pos 9999)),
      days_in_year_bounds (pos 9999),
      day_count-day_of_year day.year day.month day.day day.day_in.0,
      day.day_in,
    )

-- So its minutes begin at a second.
pub minute_begins : (shown : DateTime) (number : ℕ) → IsDayAt shown.date number → shown.time.subsec_nanosecond ≡ 0
    → ((second : ℤ) → IsShownAt second shown → IsTimestampNanos (second *ℤ pos 1_000_000_000) → ⊥) → ⊥
minute_begins shown number at begins none =
    let is : IsShownAt (civil_seconds shown) shown =
    omega (arith, signed_arith, civil_nanos-civil_seconds shown, begins) in
    none (civil_seconds shown) is (omega (
      arith,
      signed_arith,
      is,
      civil_nanos-parts shown,
      time_nanos_bound shown.time,
      day_near shown.date number at,
    ))

-- Whole seconds that are near enough come back from their nanoseconds.
pub seconds_back : (nanos quotient wide second : ℤ) → nanos ≡ second *ℤ pos 1_000_000_000
    → IsTimestampNanos (second *ℤ pos 1_000_000_000)
    → quotient ≡ to_z w128 (of_z w128 (int_div (to_z w128 (of_z w128 nanos)) (pos 1_000_000_000)))
    → wide ≡ to_z w64 (of_z w64 quotient)
    → of_z w128 (to_z w128 (of_z w128 wide) *ℤ pos 1_000_000_000) ≡ of_z w128 nanos
seconds_back nanos quotient wide second whole near quotient_is wide_is =
    let small : unsigned_abs second < 2 ^ 60 = omega (arith, signed_arith, near, one_part second) in
    let few : unsigned_abs nanos < 2 ^ 100 = omega (arith, signed_arith, whole, near, one_part nanos) in
    let back : to_z w128 (of_z w128 nanos) ≡ nanos = back_small w128 nanos (omega (arith, few)) in
    let divided : int_div nanos (pos 1_000_000_000) ≡ second = omega (arith, signed_arith, whole) in
    let long : to_z w128 (of_z w128 second) ≡ second = back_small w128 second (omega (arith, small)) in
    let same : quotient ≡ second = quotient_is
    ∙ ap (λ z. to_z w128 (of_z w128 z)) (ap (λ z. int_div z (pos 1_000_000_000)) back ∙ divided) ∙ long in
    let narrow : wide ≡ second = wide_is ∙ ap (λ z. to_z w64 (of_z w64 z)) same
    ∙ back_small w64 second (omega (arith, small)) in
    ap (of_z w128) (ap (λ z. z *ℤ pos 1_000_000_000) (ap (λ z. to_z w128 (of_z w128 z)) narrow ∙ long) ∙ sym whole)
