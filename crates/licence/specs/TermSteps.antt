-- What the steps of the calls return: a day that is read, its number, and a day between two others.
use Rattle.std.specs.Prelude.{List, cond, ◌&&◌, Bool, ℕ, ltb, leb, Option, Some, None, Result, Ok, Err}
use Rattle.refusals.specs.declared.Refusal.{Refusal}
use Rattle.refusals.specs.declared.Refusal.TheVariants as refused
use Rattle.licence.specs.declared.calendar.Date.{Date}
use Rattle.licence.specs.Licence.{is_day, date_in, number_in}

-- The date that is written, where one is.
unfoldable pub day_read : List ℕ → Option Date
day_read xs = cond (is_day xs) (Some (date_in xs)) None

-- The number of the date that is written, or the refusal.
unfoldable pub number_read : List ℕ → Result ℕ Refusal
number_read xs = cond (is_day xs) (Ok (number_in xs)) (Err refused.NotADate)

-- A day by its number, between those of the first and the last.
unfoldable pub licence_between : ℕ → ℕ → ℕ → Result Bool Refusal
licence_between first last day = cond (ltb last first) (Err refused.LastBeforeFirst) (Ok (leb first day && leb day last))
