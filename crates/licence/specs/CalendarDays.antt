-- Days of the calendar one after the other, and the bounds of a day's parts.
-- docs/FORMAT.md: "Licence dates".
use Rattle.std.specs.Prelude.{Bool, cond, ◌&&◌, ◌||◌, ◌+◌, ◌-◌, ◌≤◌, ltb, eqb}
use Rattle.licence.specs.declared.calendar.Date.{Date}
use Rattle.licence.specs.Licence.{month_length}

-- A date that `is_date` takes, part by part.
pub record DateFacts (d : Date) : Type 0 where
  pub year_low : 2000 ≤ d.year
  pub year_high : d.year ≤ 2099
  pub month_low : 1 ≤ d.month
  pub month_high : d.month ≤ 12
  pub day_low : 1 ≤ d.day
  pub day_high : d.day ≤ month_length d.year d.month

-- The day after a date: of the same month, else the first of the next month, else 1 January of the next year.
unfoldable pub next_day : Date → Date
next_day d =
    cond (ltb d.day (month_length d.year d.month)) (record { year = d.year; month = d.month; day = d.day + 1 })
    (cond (ltb d.month 12) (record { year = d.year; month = d.month + 1; day = 1 })
    (record { year = d.year + 1; month = 1; day = 1 }))

-- The first date is before the second: an earlier year, or in the same year an earlier month, or in the same month an earlier day.
unfoldable pub earlier : Date → Date → Bool
earlier d e =
    ltb d.year e.year
    || (eqb d.year e.year && (ltb d.month e.month || (eqb d.month e.month && ltb d.day e.day)))
