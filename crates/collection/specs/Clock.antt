-- The calendar of the host, in UTC: the moment that a second of it is in.
use Rattle.std.specs.Prelude.{◌≡◌, ◌⊎◌, ◌+◌, ◌*◌, ℕ, ℤ, pos, ◌*ℤ◌}
use Rattle.jiff_core.specs.Timestamp.{IsTimestampNanos}
use Rattle.jiff_core.specs.DateTime.{civil_nanos}
use Rattle.jiff_core.specs.declared.civil.date.Date.{Date}
use Rattle.jiff_core.specs.declared.civil.datetime.DateTime.{DateTime}
use Rattle.words36.specs.Common.{IsDate, date_number}
use Rattle.words36.specs.declared.moment.Moment.{Moment}

-- at the beginning of a second, counted from the beginning of 1970, the calendar shows this
abbrev pub IsShownAt : ℤ → DateTime → Type 0
IsShownAt second shown = civil_nanos shown ≡ second *ℤ pos 1_000_000_000

-- a day of the calendar has this number
pub record IsDayAt (day : Date) (number : ℕ) : Type 0 where
  pub year : ℕ
  pub year_is : day.year ≡ pos year
  pub date : IsDate year day.month day.day
  pub number_is : number ≡ date_number year day.month day.day

-- A second is in the minute of this moment.
pub record IsAtSecond (second : ℤ) (at : Moment) : Type 0 where
  pub shown : DateTime
  pub is : IsShownAt second shown
  pub day : IsDayAt shown.date at.date
  pub minute : at.minute ≡ 60 * shown.time.hour + shown.time.minute

-- A second is too far away, or on a day that a file can't have.
abbrev pub IsUndated : ℤ → Type 0
IsUndated second = (IsTimestampNanos (second *ℤ pos 1_000_000_000) → ⊥)
    ⊎ ((shown : DateTime) × IsShownAt second shown × ((number : ℕ) → IsDayAt shown.date number → ⊥))

-- date 0, minute 0: the moment for calls whose moment doesn't matter
abbrev pub at_first : Moment → Type 0
at_first at = (at.date ≡ 0) × (at.minute ≡ 0)
