-- Examples, computed from the definitions.
use Rattle.std.specs.Prelude.{List, [], ◌∷◌, true, false, ◌≡◌, refl, ℕ, ◌+◌, pos, negsuc}
use Rattle.text.specs.Text.{sum_below, all_below, is_digit}
use Rattle.licence.specs.Licence.{leap, month_length, year_length, is_date, day_number, renewed, pair_at, date_in, is_day, written}
use Rattle.licence.specs.CalendarDays.{next_day}
use Rattle.licence.specs.Licence.{open_on_refusal, open_on, days_left_refusal, days_left, renew_refusal, renew_buffer}

-- eight digits as bytes
day : (a b c d e f g h : ℕ) → List ℕ
day a b c d e f g h = (48 + a) ∷ (48 + b) ∷ (48 + c) ∷ (48 + d) ∷ (48 + e) ∷ (48 + f) ∷ (48 + g) ∷ (48 + h) ∷ []

pub record LicenceExamples : Type 0 where
  -- 1 January 2000, 31 December 2099
  first_number : day_number (date_in (day 2 0 0 0 0 1 0 1)) ≡ 0
  last_number : day_number (date_in (day 2 0 9 9 1 2 3 1)) ≡ 36524
  -- 29 February is a day in 2024 and 2000, not in 2001
  leap_day : is_day (day 2 0 2 4 0 2 2 9) ≡ true
  leap_hundred : is_day (day 2 0 0 0 0 2 2 9) ≡ true
  no_leap_day : is_day (day 2 0 0 1 0 2 2 9) ≡ false
  -- The day after a 28 February, and after a 31 December.
  after_leap : written (next_day (date_in (day 2 0 2 4 0 2 2 8))) ≡ day 2 0 2 4 0 2 2 9
  after_plain : written (next_day (date_in (day 2 0 2 3 0 2 2 8))) ≡ day 2 0 2 3 0 3 0 1
  after_year : written (next_day (date_in (day 2 0 2 3 1 2 3 1))) ≡ day 2 0 2 4 0 1 0 1
  -- No month 13, no day 0, no year 1999 or 2100, no letter, no seven bytes.
  no_month : is_day (day 2 0 2 4 1 3 0 1) ≡ false
  no_zero : is_day (day 2 0 2 4 0 1 0 0) ≡ false
  too_early : is_day (day 1 9 9 9 1 2 3 1) ≡ false
  too_late : is_day (day 2 1 0 0 0 1 0 1) ≡ false
  no_digit : is_day (day 2 0 2 4 0 1 0 49) ≡ false
  too_short : is_day (50 ∷ 48 ∷ 50 ∷ 52 ∷ 48 ∷ 49 ∷ 48 ∷ []) ≡ false
  -- Days left.
  over_leap_day : days_left (day 2 0 2 4 0 3 0 1) (day 2 0 2 4 0 2 2 8) ≡ pos 2
  over_february : days_left (day 2 0 2 3 0 3 0 1) (day 2 0 2 3 0 2 2 8) ≡ pos 1
  last_day : days_left (day 2 0 2 4 0 2 2 9) (day 2 0 2 4 0 2 2 9) ≡ pos 0
  -- From the first day of all to the last; one day past: -1, which ℤ writes `negsuc 0`.
  whole_range : days_left (day 2 0 9 9 1 2 3 1) (day 2 0 0 0 0 1 0 1) ≡ pos 36524
  day_past : days_left (day 2 0 2 3 1 2 3 1) (day 2 0 2 4 0 1 0 1) ≡ negsuc 0
  -- open: both ends included; 23 after every 22
  on_first : open_on (day 2 0 2 4 0 1 0 1) (day 2 0 2 4 1 2 3 1) (day 2 0 2 4 0 1 0 1) ≡ true
  on_last : open_on (day 2 0 2 4 0 1 0 1) (day 2 0 2 4 1 2 3 1) (day 2 0 2 4 1 2 3 1) ≡ true
  day_after : open_on (day 2 0 2 4 0 1 0 1) (day 2 0 2 4 1 2 3 1) (day 2 0 2 5 0 1 0 1) ≡ false
  not_open : open_on_refusal (day 2 0 2 4 0 1 0 1) (day 2 0 2 4 1 2 3 1) (day 2 0 2 5 0 1 0 1) ≡ 0
  turned : open_on_refusal (day 2 0 2 4 0 1 0 2) (day 2 0 2 4 0 1 0 1) (day 2 0 2 4 0 1 0 1) ≡ 23
  turned_bad : open_on_refusal (day 2 0 2 4 0 1 0 2) (day 2 0 2 4 0 1 0 1) (day 2 0 2 3 0 2 2 9) ≡ 22
  -- renewal
  from_leap_day : renew_buffer (day 2 0 2 4 0 2 2 9) ≡ day 2 0 2 5 0 2 2 8
  to_leap_year : renew_buffer (day 2 0 2 3 0 2 2 8) ≡ day 2 0 2 4 0 2 2 8
  to_last_year : renew_buffer (day 2 0 9 8 1 2 3 1) ≡ day 2 0 9 9 1 2 3 1
  past_last_year : (renew_refusal (day 2 0 9 9 1 2 3 1) ≡ 22) × (renew_buffer (day 2 0 9 9 1 2 3 1) ≡ day 2 0 9 9 1 2 3 1)

pub licence-examples : LicenceExamples
unfolding day sum_below all_below leap month_length
    year_length is_date day_number next_day renewed is_digit pair_at date_in is_day written open_on_refusal open_on days_left_refusal days_left renew_refusal renew_buffer
licence-examples = record {
  first_number = refl;
  last_number = refl;
  leap_day = refl;
  leap_hundred = refl;
  no_leap_day = refl;
  after_leap = refl;
  after_plain = refl;
  after_year = refl;
  no_month = refl;
  no_zero = refl;
  too_early = refl;
  too_late = refl;
  no_digit = refl;
  too_short = refl;
  over_leap_day = refl;
  over_february = refl;
  last_day = refl;
  whole_range = refl;
  day_past = refl;
  on_first = refl;
  on_last = refl;
  day_after = refl;
  not_open = refl;
  turned = refl;
  turned_bad = refl;
  from_leap_day = refl;
  to_leap_year = refl;
  to_last_year = refl;
  past_last_year = (refl, refl);
}
