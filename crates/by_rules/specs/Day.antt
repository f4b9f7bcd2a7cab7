-- Days of the calendar, by year and place in the year.
use Rattle.std.specs.Prelude.{◌≡◌, ◌⊎◌, ℕ, ◌+◌, ◌-◌, ◌*◌, ◌/◌, ◌%◌, ◌<◌, ◌≤◌, Bool, not, ◌&&◌, ◌||◌, ◌==◌, if◌then◌else◌, ℤ, pos, neg_ℤ, ◌+ℤ◌, ◌≤ℤ◌}
use Rattle.by_rules.specs.declared.day.Day.{Day}

-- by year, and then by day
abbrev pub IsEarlier : Day → Day → Type 0
IsEarlier a b = (a.year < b.year) ⊎ ((a.year ≡ b.year) × (a.day < b.day))

-- every fourth year, but of the centuries only every fourth
abbrev pub is_leap_year : ℕ → Bool
is_leap_year year = (year % 4 == 0) && (not (year % 100 == 0) || (year % 400 == 0))

abbrev pub days_of_year : ℕ → ℕ
days_of_year year = if is_leap_year year then 366 else 365

-- the days of the years from 0 up to this one: 365 each, and one for each leap year
abbrev pub days_before : ℕ → ℕ
days_before year = 365 * year + (year + 3) / 4 + (year + 399) / 400 - (year + 99) / 100

-- the number of a day, counted from the first day of the year 0, which is 1
abbrev pub day_number : Day → ℕ
day_number date = days_before date.year + date.day

-- the year has such a day
pub record IsCalendarDay (date : Day) : Type 0 where
  pub first : 1 ≤ date.day
  pub last : date.day ≤ days_of_year date.year

-- a day of the years in which the product is used
pub record IsToday (date : Day) : Type 0 where
  pub day : IsCalendarDay date
  pub from : 1900 ≤ date.year
  pub to : date.year ≤ 2155

-- how far from today a date of a criterion may lie
abbrev pub IsShift : ℤ → Type 0
IsShift days = (neg_ℤ (pos 36500) ≤ℤ days) × (days ≤ℤ pos 36500)

-- the day of the calendar that many days later, or earlier where the number is negative
pub record IsDayAfter (today : Day) (days : ℤ) (date : Day) : Type 0 where
  pub day : IsCalendarDay date
  pub number : pos (day_number date) ≡ pos (day_number today) +ℤ days
