-- A date that is written is read back.
use Rattle.std.specs.Prelude.{Bool, true, ◌≡◌, ℕ, ◌+◌, ◌-◌, ◌*◌, ◌/◌, ◌%◌, ◌≤◌, ◌<◌, length, get_or, eqb}
use Rattle.std.proofs.Math.Path.{refl}
use Rattle.std.proofs.Common.{sym, ap, ◌∙◌, arith, mod-lt, eqb-true}
use Rattle.text.specs.Text.{all_below, is_digit}
use Rattle.text.specs.ListLaws.{all_below-at, and_both}
use Rattle.licence.specs.declared.calendar.Date.{Date}
use Rattle.licence.specs.CalendarDays.{DateFacts}
use Rattle.licence.specs.MonthLaws.{month-short}
use Rattle.licence.specs.CalendarLaws.{facts-date}
use Rattle.licence.specs.Licence.{pair_at, date_in, is_day, ones, written}

-- Two digits, and the four of a year.
abbrev two_right : ℕ → Bool
two_right k = eqb (10 * (ones (k / 10) - 48) + (ones k - 48)) k

abbrev year_back : ℕ → ℕ
year_back y = 100 * (10 * (ones (y / 1000) - 48) + (ones (y / 100) - 48)) + (10 * (ones (y / 10) - 48) + (ones y - 48))

abbrev year_right : ℕ → Bool
year_right k = eqb (year_back (2000 + k)) (2000 + k)

two-test : all_below 100 two_right ≡ true
unfolding all_below
two-test = refl

year-test : all_below 100 year_right ≡ true
unfolding all_below
year-test = refl

two_is : (k : ℕ) → k < 100 → 10 * (ones (k / 10) - 48) + (ones k - 48) ≡ k
two_is k h = eqb-true (10 * (ones (k / 10) - 48) + (ones k - 48)) k (all_below-at 100 two_right two-test k h)

year-is : (y : ℕ) → 2000 ≤ y → y ≤ 2099 → year_back y ≡ y
year-is y low high =
    let e : 2000 + (y - 2000) ≡ y = omega arith in
    let k = all_below-at 100 year_right year-test (y - 2000) (omega arith) in
    ap year_back (sym e) ∙ eqb-true (year_back (2000 + (y - 2000))) (2000 + (y - 2000)) k ∙ e

-- A last digit is a digit.
digit-test : all_below 10 (λ k. is_digit (48 + k)) ≡ true
unfolding all_below is_digit
digit-test = refl

ones-digit : (n : ℕ) → is_digit (ones n) ≡ true
ones-digit n = all_below-at 10 (λ k. is_digit (48 + k)) digit-test (n % 10) (mod-lt n (omega arith))

module _ (d : Date) (f : DateFacts d) where
  pub date-back : date_in (written d) ≡ d
  unfolding date_in pair_at written
  date-back = λ i. record {
    year = year-is d.year f.year_low f.year_high i;
    month = two_is d.month (omega (arith, f.month_high)) i;
    day = two_is d.day (omega (arith, f.day_high, month-short d.year d.month f.month_low f.month_high)) i;
  }

  digits-back : all_below 8 (λ i. is_digit (get_or (written d) i 0)) ≡ true
  unfolding all_below written
  digits-back =
      rw (
        ones-digit (d.year / 1000),
        ones-digit (d.year / 100),
        ones-digit (d.year / 10),
        ones-digit d.year,
        ones-digit (d.month / 10),
        ones-digit d.month,
        ones-digit (d.day / 10),
        ones-digit d.day,
      )

  eight : eqb (length (written d)) 8 ≡ true
  unfolding written
  eight = refl

  pub day-back : is_day (written d) ≡ true
  unfolding is_day
  day-back = and_both (and_both eight digits-back) (rw date-back (facts-date d f))
