-- Day numbers, and those of `jiff`.
use Rattle.std.proofs.Common.{◌≡◌, ℕ, zero, suc, ◌+◌, ◌<◌, ◌≤◌, refl, sym, ap, ◌∙◌, arith, ℤ, pos, negsuc, ◌+ℤ◌, ◌≤ℤ◌, unsigned_abs}
use Rattle.std.proofs.lemmas.Bool.Decides.{nat_tests}
use Rattle.std.proofs.lemmas.Int.{by_lt_z}
use Rattle.jiff_core.specs.Calendar.{day_count, days_in_year, IsEpochDay}
use Rattle.jiff_core.specs.Date.{epoch_day, ordinal}
use Rattle.jiff_core.specs.declared.civil.date.Date.{Date}
use Rattle.jiff_core.proofs.CalendarLemmas.{day_count-epoch, days_from_civil-day_count, day_count-next_year, day_count-day_of_year, day_count-lt_year, day_of_year_bound, days_of_months-zero}
use Rattle.jiff_core.proofs.DateLemmas.{civil}
use Rattle.jiff_core.proofs.SignedLemmas.{signed_arith}
use Rattle.by_rules.specs.declared.day.Day.{Day}
use Rattle.by_rules.specs.Day.{days_of_year, days_before, day_number, IsCalendarDay, IsToday, IsShift, IsDayAfter}

-- a year's days come before the next
pub days_before-next : (year : ℕ) → days_before (suc year) ≡ days_before year + days_of_year year
days_before-next year = grind (arith, nat_tests)

pub same_year : (year : ℕ) → days_in_year (pos year) ≡ days_of_year year
same_year year = refl

-- 1 January of a year, in the count of `jiff`
january : (year : ℕ) → day_count (pos year) 1 1 ≡ day_count (pos 0) 1 1 + days_before year
january zero = omega arith
january (suc year) =
    omega (arith, january year, days_before-next year, day_count-next_year (pos year) (pos (suc year)) (omega (arith, signed_arith)) (omega (arith, signed_arith)))

epoch : day_count (pos 0) 1 1 ≡ 3652425
epoch = omega (arith, january 1970, day_count-epoch)

-- the number of a date of `jiff`, from 1970 on
number_of_date : (date : Date) (year : ℕ) → date.year ≡ pos year → epoch_day date +ℤ pos 719529 ≡ pos (days_before year + ordinal date)
number_of_date date year e =
    let first : day_count date.year 1 1 ≡ day_count (pos year) 1 1 = ap (λ (y : ℤ). day_count y 1 1) e in
    omega (arith, signed_arith, first, january year, epoch, days_from_civil-day_count date.year date.month date.day, day_count-day_of_year date.year date.month date.day date.day_in.0)

-- a date that stands at or after 1 January of the year 0
from_year_zero : (date : Date) → pos 0 ≤ℤ (epoch_day date +ℤ pos 719528) → pos 0 ≤ℤ date.year
from_year_zero date late =
    by_lt_z date.year (pos 0)
    (λ lt. absurd (omega (arith, signed_arith, epoch, days_from_civil-day_count date.year date.month date.day, day_count-lt_year date.year date.month date.day (pos 0) 1 1 (civil date) (omega arith) lt)))
    (λ le. le)

not_negative : (z : ℤ) → pos 0 ≤ℤ z → z ≡ pos (unsigned_abs z)
not_negative (pos n) h = refl
not_negative (negsuc n) h = absurd (omega (arith, signed_arith))

-- 1 January of this year, and so many days
pub is_day_after : (today : Day) (shift : ℤ) (first then : Date) (days : ℤ) → IsToday today → IsShift shift
    → first.year ≡ pos today.year → first.month ≡ 1 → first.day ≡ 1
    → (days +ℤ pos 1) ≡ (pos today.day +ℤ shift) → epoch_day then ≡ epoch_day first +ℤ days
    → (year : ℕ) × (then.year ≡ pos year) × IsDayAfter today shift (record { year = year; day = ordinal then })
is_day_after today shift first then days t s y m d e n =
    let first_ordinal : ordinal first ≡ 1 = rw (m, d) (omega (arith, days_of_months-zero first.year)) in
    let from = number_of_date first today.year y in
    let late : pos 0 ≤ℤ (epoch_day then +ℤ pos 719528) = omega (arith, signed_arith, t.from, t.day.first, s.0) in
    let at = from_year_zero then late in
    let year-is : then.year ≡ pos (unsigned_abs then.year) = not_negative then.year at in
    let to = number_of_date then (unsigned_abs then.year) year-is in
    let last = day_of_year_bound then.year then.month then.day (civil then) in
    let length : days_in_year then.year ≡ days_of_year (unsigned_abs then.year) = ap days_in_year year-is in (
      unsigned_abs then.year,
      year-is,
      record {
        day = record { first = omega (arith, then.day_in.0); last = omega arith };
        number = omega (arith, signed_arith);
      },
    )

-- and `jiff` has that date
pub is_epoch_day : (today : Day) (shift : ℤ) (first : Date) (days : ℤ) → IsToday today → IsShift shift
    → first.year ≡ pos today.year → first.month ≡ 1 → first.day ≡ 1
    → (days +ℤ pos 1) ≡ (pos today.day +ℤ shift) → IsEpochDay (epoch_day first +ℤ days)
is_epoch_day today shift first days t s y m d e =
    let first_ordinal : ordinal first ≡ 1 = rw (m, d) (omega (arith, days_of_months-zero first.year)) in
    let from = number_of_date first today.year y in
    let length : days_of_year today.year ≤ 366 = grind arith in
    (omega (arith, signed_arith, t.from, t.day.first, s.0), omega (arith, signed_arith, t.to, t.day.last, s.1))

-- the year and the place of a date
pub is_day_of : (today : Day) (shift : ℤ) (then : Date) (date : Day)
    → ((year : ℕ) × (then.year ≡ pos year) × IsDayAfter today shift (record { year = year; day = ordinal then }))
    → then.year ≡ pos date.year → date.day ≡ ordinal then → IsDayAfter today shift date
is_day_of today shift then date (year, is, after) y d =
    let same : year ≡ date.year = omega (arith, signed_arith) in
    record {
      day = record { first = omega (arith, after.day.first); last = rw (← same) (omega (arith, after.day.last)) };
      number = rw (← same, d) after.number;
    }

-- a year's days come before those of each later year
later_year : (a b : ℕ) → a < b → days_before a + days_of_year a ≤ days_before b
later_year a b lt =
    let grows : days_before (suc a) ≤ days_before b = omega arith in
    omega (arith, days_before-next a)

same_day : (a b : Day) → a.year ≡ b.year → a.day ≡ b.day → a ≡ b
same_day a b p q =
    let year-is : a ≡ record { year = b.year; day = a.day } = ap (λ (y : ℕ). record { year = y; day = a.day }) p in
    year-is ∙ ap (λ (d : ℕ). record { year = b.year; day = d }) q

not_later : (a b : Day) → IsCalendarDay a → IsCalendarDay b → day_number a ≡ day_number b → ¬ (a.year < b.year)
not_later a b p q e lt = omega (arith, later_year a.year b.year lt, p.last, q.first)

-- a day has one number, and a number one day
pub one_day : (a b : Day) → IsCalendarDay a → IsCalendarDay b → day_number a ≡ day_number b → a ≡ b
one_day a b p q e =
    let year-is : a.year ≡ b.year = omega (arith, not_later a b p q e, not_later b a q p (sym e)) in
    let before : days_before a.year ≡ days_before b.year = ap days_before year-is in
    same_day a b year-is (omega arith)

pub one_day_after : (today : Day) (shift : ℤ) (a b : Day) → IsDayAfter today shift a → IsDayAfter today shift b → a ≡ b
one_day_after today shift a b p q = one_day a b p.day q.day (omega (arith, signed_arith, p.number, q.number))

pub years_follow : (year : ℕ) → day_number (record { year = year + 1; day = 1 }) ≡ day_number (record { year = year; day = days_of_year year }) + 1
years_follow year =
    let next : year + 1 ≡ suc year = omega arith in
    let before : days_before (year + 1) ≡ days_before (suc year) = ap days_before next in
    omega (arith, days_before-next year)
