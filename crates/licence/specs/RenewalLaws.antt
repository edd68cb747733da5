-- Laws of a renewal: a day before 2099 becomes a day again, and lies 365 or 366 days on.
use Rattle.std.specs.Prelude.{Bool, true, false, cond, ◌&&◌, ◌≡◌, refl, ◌⊎◌, ℕ, ◌+◌, ◌-◌, ◌≤◌, ◌<◌, ltb, eqb}
use Rattle.std.proofs.Common.{ap, ◌∙◌, inl, inr, eqb-true, ne_eqb, le-ltb}
use native.Mathlib.Omega.{arith}
use Rattle.std.proofs.lemmas.Bool.{eqb-false}
use Rattle.text.specs.ListLaws.{and-false}
use Rattle.licence.specs.declared.calendar.Date.{Date}
use Rattle.licence.specs.Licence.{leap, month_length, day_number, renewed}
use Rattle.licence.specs.CalendarDays.{DateFacts}
use Rattle.licence.specs.MonthLaws.{same-month, february, month-long, year-days, months-before, year-after}

module _ (d : Date) where
  abbrev y : ℕ
  y = d.year

  abbrev m : ℕ
  m = d.month

  -- The day of the month, a year later.
  abbrev on_day : ℕ → Date
  on_day day = record { year = y + 1; month = m; day = day }

  -- The renewal of a 29 February, and of any other day.
  pub renewed-leap : m ≡ 2 → d.day ≡ 29 → on_day 28 ≡ renewed d
  unfolding renewed
  renewed-leap two is = rw (two, is)

  pub renewed-day : (d.day ≡ 29 → ⊥) → on_day d.day ≡ renewed d
  unfolding renewed
  renewed-day other = rw (ne_eqb d.day 29 other, and-false (eqb m 2))

  pub renewed-month : (m ≡ 2 → ⊥) → on_day d.day ≡ renewed d
  unfolding renewed
  renewed-month other = rw (ne_eqb m 2 other)

-- The days from one to the other, by whether the two years have a 29 February and the month is past it.
later : (late a b : Bool) (n x : ℕ) → x + cond (late && a) 1 0 ≡ n + 365 + cond a 1 0 + cond (late && b) 1 0 → (x ≡ n + 365) ⊎ (x ≡ n + 366)
later false true b n x e = inr (omega arith)
later false false b n x e = inl (omega arith)
later true true true n x e = inr (omega arith)
later true true false n x e = inl (omega arith)
later true false true n x e = inr (omega arith)
later true false false n x e = inl (omega arith)

-- A day before 2099.
module _ (d : Date) (f : DateFacts d) (before : d.year < 2099) where
  abbrev late : Bool
  late = ltb 1 (m d - 1)

  abbrev Renewal : Date → Type 0
  Renewal e = DateFacts e × ((day_number e ≡ day_number d + 365) ⊎ (day_number e ≡ day_number d + 366))

  -- On a day that the month has, it is a date.
  on-date : (day : ℕ) → 1 ≤ day → day ≤ month_length (y d + 1) (m d) → DateFacts (on_day d day)
  on-date day low high = record {
    year_low = omega (arith, f.year_low);
    year_high = omega arith;
    month_low = f.month_low;
    month_high = f.month_high;
    day_low = low;
    day_high = high;
  }

  -- The number of the day.
  on-number : (day : ℕ)
      → day_number (on_day d day) + cond (late && leap (y d)) 1 0 + (d.day - 1)
      ≡ day_number d + 365 + cond (leap (y d)) 1 0 + cond (late && leap (y d + 1)) 1 0 + (day - 1)
  unfolding day_number
  on-number day =
      omega (
        arith,
        year-after (y d) f.year_low,
        year-days (y d),
        months-before (y d) (m d) f.month_low f.month_high,
        months-before (y d + 1) (m d) f.month_low f.month_high,
      )

  -- The renewal to the same day of the month.
  same-day : d.day ≤ month_length (y d + 1) (m d) → Renewal (on_day d d.day)
  same-day high = (
    on-date d.day f.day_low high,
    later late (leap (y d)) (leap (y d + 1)) (day_number d) (day_number (on_day d d.day)) (omega (arith, on-number d.day)),
  )

  -- In February of either year.
  module _ (two : m d ≡ 2) where
    this : month_length (y d) (m d) ≡ cond (leap (y d)) 29 28
    this = ap (month_length (y d)) two ∙ february (y d)

    -- 29 February, so that this year has one
    leap_day : d.day ≡ 29 → Renewal (on_day d 28)
    leap_day is = by (leap (y d)) refl
      where
        early : late ≡ false
        early = le-ltb 1 (m d - 1) (omega arith)

        by : (a : Bool) → leap (y d) ≡ a → Renewal (on_day d 28)
        by true a = (
          on-date 28 (omega arith) (month-long (y d + 1) (m d) f.month_low f.month_high),
          inl (let z = rw (early, a) at (on-number 28) in omega (arith, z)),
        )
        by false a = absurd (let z = rw a at this in let x : ⊥ = omega (arith, z, f.day_high) in x)

    other-day : (d.day ≡ 29 → ⊥) → d.day ≤ 28
    other-day other = by (leap (y d)) refl
      where
        by : (a : Bool) → leap (y d) ≡ a → d.day ≤ 28
        by true a = let z = rw a at this in omega (arith, z, f.day_high)
        by false a = let z = rw a at this in omega (arith, z, f.day_high)

  renewal : (two last : Bool) → eqb (m d) 2 ≡ two → eqb d.day 29 ≡ last → Renewal (renewed d)
  renewal true true e g =
      let two = eqb-true (m d) 2 e in
      let is = eqb-true d.day 29 g in
      rw (← renewed-leap d two is) (leap_day two is)
  renewal true false e g =
      let other = eqb-false d.day 29 g in
      let most = other-day (eqb-true (m d) 2 e) other in
      rw (← renewed-day d other) (same-day (omega (arith, month-long (y d + 1) (m d) f.month_low f.month_high)))
  renewal false last e g =
      let other = eqb-false (m d) 2 e in
      rw (← renewed-month d other) (same-day (omega (arith, same-month (y d + 1) (y d) (m d) f.month_low other, f.day_high)))

  -- A renewed date is a date.
  pub renewed-date : DateFacts (renewed d)
  renewed-date = (renewal (eqb (m d) 2) (eqb d.day 29) refl refl).0

  -- The renewed day is 365 or 366 days later.
  pub renewed-later : (day_number (renewed d) ≡ day_number d + 365) ⊎ (day_number (renewed d) ≡ day_number d + 366)
  renewed-later = (renewal (eqb (m d) 2) (eqb d.day 29) refl refl).1
