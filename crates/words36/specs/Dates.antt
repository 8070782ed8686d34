-- A date is the number ((year - 1964) * 12 + (month - 1)) * 31 + (day - 1): every month has 31 days in
-- it, so 31 February has a number too. Fifteen bits end at 32767. (TOPS-10 Monitor Calls Manual.)
use Rattle.std.specs.Prelude.{ℕ, ◌+◌, ◌-◌, ◌*◌, ◌/◌, ◌%◌, ◌≤◌, ◌≡◌}

abbrev pub date_number : ℕ → ℕ → ℕ → ℕ
date_number year month day = ((year - 1964) * 12 + (month - 1)) * 31 + (day - 1)

pub record IsDate (year month day : ℕ) : Type 0 where
  pub year_from : 1964 ≤ year
  pub month_from : 1 ≤ month
  pub month_to : month ≤ 12
  pub day_from : 1 ≤ day
  pub day_to : day ≤ 31
  pub number_to : date_number year month day ≤ 32767

-- the year, month and day of a date
pub record IsDayOf (date year month day : ℕ) : Type 0 where
  pub year_is : year ≡ date / 372 + 1964
  pub month_is : month ≡ date / 31 % 12 + 1
  pub day_is : day ≡ date % 31 + 1
