-- The two texts of a day: `1975-01-04`, as `list --tsv` prints it, or `4-Jan-1975`, as DIRECTORY does.
use Rattle.std.specs.Prelude.{◌≡◌, ◌⊎◌, ℕ, ◌-◌, ◌≤◌, List, ◌∷◌, ◌++◌, length, map}
use Rattle.std.specs.Char.{to_ascii_lowercase}
use Rattle.words36.specs.Common.{IsDate, date_number}
use Rattle.spec_language.specs.Common.{Are, is_digit, decimal_after, month_text}
use Rattle.commands.specs.Characters.{is_other_than}

-- a number of `least` to `most` digits
pub record IsDecimal (least most : ℕ) (text : List ℕ) (n : ℕ) : Type 0 where
  pub enough : least ≤ length text
  pub few : length text ≤ most
  pub digits : Are is_digit text
  pub value : n ≡ decimal_after 0 text

-- a month's name, in letters of either case
pub record IsMonthName (text : List ℕ) (month : ℕ) : Type 0 where
  pub first : 1 ≤ month
  pub last : month ≤ 12
  pub named : map to_ascii_lowercase text ≡ map to_ascii_lowercase (month_text (month - 1))

-- what a text has before its first hyphen, and after it
pub record IsAtHyphen (text before after : List ℕ) : Type 0 where
  pub plain : Are (is_other_than 45) before
  pub spelled : text ≡ before ++ 45 ∷ after

-- its three parts, at its first two hyphens
pub record IsHyphened (text first second third : List ℕ) : Type 0 where
  pub rest : List ℕ
  pub one : IsAtHyphen text first rest
  pub two : IsAtHyphen rest second third

-- the parts of `1975-01-04`
pub record AreYearFirst (first second third : List ℕ) (year month day : ℕ) : Type 0 where
  pub year_is : IsDecimal 4 4 first year
  pub month_is : IsDecimal 2 2 second month
  pub day_is : IsDecimal 2 2 third day

-- the parts of `4-Jan-1975`
pub record AreDayFirst (first second third : List ℕ) (year month day : ℕ) : Type 0 where
  pub day_is : IsDecimal 1 2 first day
  pub month_is : IsMonthName second month
  pub year_is : IsDecimal 4 4 third year

abbrev pub AreDayParts : List ℕ → List ℕ → List ℕ → ℕ → ℕ → ℕ → Type 0
AreDayParts first second third year month day =
    AreYearFirst first second third year month day ⊎ AreDayFirst first second third year month day

-- a text names a day of the calendar, which has this number
pub record IsDayText (text : List ℕ) (number : ℕ) : Type 0 where
  pub first : List ℕ
  pub second : List ℕ
  pub third : List ℕ
  pub year : ℕ
  pub month : ℕ
  pub day : ℕ
  pub hyphened : IsHyphened text first second third
  pub parts : AreDayParts first second third year month day
  pub day_of_calendar : IsDate year month day
  pub value : number ≡ date_number year month day
