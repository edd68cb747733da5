-- Laws of the calendar: days are numbered one after the other, in the order of the calendar.
use Rattle.std.specs.Prelude.{[], ◌∷◌, Bool, cond, ◌&&◌, ◌||◌, ◌≡◌, refl, ◌⊎◌, ◌↔◌, ℕ, ◌+◌, ◌-◌, ◌≤◌, ◌<◌, ltb, leb, eqb}
use Rattle.std.proofs.Math.Bool.{true, false}
use Rattle.std.proofs.Common.{sym, ◌∙◌, inl, inr, arith}
use Rattle.std.proofs.Math.Path.{ap}
use borrow.Author.Tests.{leb-true, le-leb, lt-ltb, ltb-true, ltb-false, eqb-true, eq-eqb}
use Rattle.text.specs.Text.{sum_below}
use Rattle.text.specs.ListLaws.{and_left, and_right, or_cases, or_right, lt-or-ge, sum_below-part}
use Rattle.text.specs.Conjunctions.{parts}
use Rattle.licence.specs.declared.calendar.Date.{Date}
use Rattle.licence.specs.Licence.{month_length, year_length, is_date, before_year, before_month, day_number}
use Rattle.licence.specs.CalendarDays.{DateFacts, next_day, earlier}
use Rattle.licence.specs.MonthLaws.{month-long, year-after, month-after, year-months}

pub date-facts : (d : Date) → is_date d ≡ true → DateFacts d
unfolding is_date
date-facts d h =
    let most = leb d.day (month_length d.year d.month) in
    let p = parts (leb 2000 d.year) (leb d.year 2099 ∷ leb 1 d.month ∷ leb d.month 12 ∷ leb 1 d.day ∷ most ∷ []) h in record {
      year_low = leb-true 2000 d.year p.0;
      year_high = leb-true d.year 2099 p.1.0;
      month_low = leb-true 1 d.month p.1.1.0;
      month_high = leb-true d.month 12 p.1.1.1.0;
      day_low = leb-true 1 d.day p.1.1.1.1.0;
      day_high = leb-true d.day (month_length d.year d.month) p.1.1.1.1.1.0;
    }

pub facts-date : (d : Date) → DateFacts d → is_date d ≡ true
unfolding is_date
facts-date d f =
    rw (
      le-leb 2000 d.year f.year_low,
      le-leb d.year 2099 f.year_high,
      le-leb 1 d.month f.month_low,
      le-leb d.month 12 f.month_high,
      le-leb 1 d.day f.day_low,
      le-leb d.day (month_length d.year d.month) f.day_high,
    )

-- From a day to the next.
module _ (d : Date) (f : DateFacts d) where
  abbrev y : ℕ
  y = d.year

  abbrev m : ℕ
  m = d.month

  abbrev next_by : Bool → Bool → Date
  next_by a b =
      cond a (record { year = y; month = m; day = d.day + 1 })
      (cond b (record { year = y; month = m + 1; day = 1 }) (record { year = y + 1; month = 1; day = 1 }))

  next_is : (a b : Bool) → ltb d.day (month_length y m) ≡ a → ltb m 12 ≡ b → next_day d ≡ next_by a b
  unfolding next_day
  next_is a b e g = rw (e, g)

  number_by : (a b : Bool) → ltb d.day (month_length y m) ≡ a → ltb m 12 ≡ b → day_number (next_by a b) ≡ day_number d + 1
  unfolding day_number sum_below
  number_by true b e g = omega (arith, f.day_low)
  number_by false true e g =
      omega (arith, month-after y m f.month_low, f.day_low, f.day_high, ltb-false d.day (month_length y m) e)
  number_by false false e g =
      let twelve : m ≡ 12 = omega (arith, ltb-false m 12 g, f.month_high) in
      let x : before_month y m ≡ before_month y 12 = ap (before_month y) twelve in
      let z : month_length y m ≡ month_length y 12 = ap (month_length y) twelve in
      omega (arith, year-after y f.year_low, year-months y, x, z, f.day_low, f.day_high, ltb-false d.day (month_length y m) e)

  -- The day after has the next number.
  pub next-number : day_number (next_day d) ≡ day_number d + 1
  next-number =
      let a = ltb d.day (month_length y m) in
      let b = ltb m 12 in
      ap day_number (next_is a b refl refl) ∙ number_by a b refl refl

  facts-by : (a b : Bool) → ltb d.day (month_length y m) ≡ a → ltb m 12 ≡ b → (next_by a b).year ≤ 2099 → DateFacts (next_by a b)
  facts-by true b e g h = record {
    year_low = f.year_low;
    year_high = h;
    month_low = f.month_low;
    month_high = f.month_high;
    day_low = omega arith;
    day_high = omega (arith, ltb-true d.day (month_length y m) e);
  }
  facts-by false true e g h = record {
    year_low = f.year_low;
    year_high = h;
    month_low = omega arith;
    month_high = omega (arith, ltb-true m 12 g);
    day_low = omega arith;
    day_high = omega (arith, month-long y (m + 1) (omega arith) (omega (arith, ltb-true m 12 g)));
  }
  facts-by false false e g h = record {
    year_low = omega (arith, f.year_low);
    year_high = h;
    month_low = omega arith;
    month_high = omega arith;
    day_low = omega arith;
    day_high = omega (arith, month-long (y + 1) 1 (omega arith) (omega arith));
  }

  -- The next day is a day, up to the last one of 2099.
  pub next-date : (next_day d).year ≤ 2099 → DateFacts (next_day d)
  next-date h =
      let a = ltb d.day (month_length y m) in
      let b = ltb m 12 in
      let e = next_is a b refl refl in
      rw e (facts-by a b refl refl (rw e at h))

  -- The number is before that of the next year's first day, and of the next month's.
  within-month : before_month y m + (d.day - 1) < before_month y (m + 1)
  within-month = omega (arith, month-after y m f.month_low, f.day_low, f.day_high)

  within-year : before_month y m + (d.day - 1) < year_length y
  unfolding year_length
  within-year =
      let p = sum_below-part 12 (λ i. month_length y (i + 1)) (m - 1) (omega (arith, f.month_low, f.month_high)) in
      let e : m - 1 + 1 ≡ m = omega (arith, f.month_low) in
      let z : month_length y (m - 1 + 1) ≡ month_length y m = ap (month_length y) e in
      omega (arith, p, z, f.day_low, f.day_high)

-- Sums grow.
sum_mono : (f : ℕ → ℕ) (a b : ℕ) → a ≤ b → sum_below a f ≤ sum_below b f
sum_mono f a b h = go (lt-or-ge a b)
  where
    go : (a < b) ⊎ (b ≤ a) → sum_below a f ≤ sum_below b f
    go (inl l) = omega (arith, sum_below-part b f a l)
    go (inr g) = let e : a ≡ b = omega arith in rw e (omega arith)

-- An earlier day has a lower number.
module _ (d e : Date) (f : DateFacts d) (g : DateFacts e) where
  by-year : d.year < e.year → day_number d < day_number e
  unfolding day_number
  by-year l =
      let a = year-after d.year f.year_low in
      let b = sum_mono (λ i. year_length (2000 + i)) (d.year + 1 - 2000) (e.year - 2000) (omega (arith, f.year_low)) in
      omega (arith, a, b, within-year d f)

  by-month : d.year ≡ e.year → d.month < e.month → day_number d < day_number e
  unfolding day_number
  by-month s l =
      let x : before_year d.year ≡ before_year e.year = ap before_year s in
      let z : before_month d.year e.month ≡ before_month e.year e.month = ap (λ (k : ℕ). before_month k e.month) s in
      let b = sum_mono (λ i. month_length d.year (i + 1)) (d.month + 1 - 1) (e.month - 1) (omega arith) in
      omega (arith, x, z, b, within-month d f)

  by-day : d.year ≡ e.year → d.month ≡ e.month → d.day < e.day → day_number d < day_number e
  unfolding day_number
  by-day s t l =
      let x : before_year d.year ≡ before_year e.year = ap before_year s in
      let z : before_month d.year d.month ≡ before_month e.year e.month = λ i. before_month (s i) (t i) in
      omega (arith, x, z, f.day_low)

  earlier-year : d.year < e.year → earlier d e ≡ true
  unfolding earlier
  earlier-year l = rw (lt-ltb d.year e.year l)

  earlier-month : d.year ≡ e.year → d.month < e.month → earlier d e ≡ true
  unfolding earlier
  earlier-month s l = or_right (ltb d.year e.year) (rw (eq-eqb d.year e.year s, lt-ltb d.month e.month l))

  earlier-day : d.year ≡ e.year → d.month ≡ e.month → d.day < e.day → earlier d e ≡ true
  unfolding earlier
  earlier-day s t l =
      or_right (ltb d.year e.year)
      (rw (eq-eqb d.year e.year s, eq-eqb d.month e.month t, lt-ltb d.day e.day l) (or_right (ltb d.month e.month) refl))

-- The order of the calendar is the order of the numbers.
three : (a b : ℕ) → (a < b) ⊎ ((a ≡ b) ⊎ (b < a))
three a b = go (lt-or-ge a b) (lt-or-ge b a)
  where
    go : (a < b) ⊎ (b ≤ a) → (b < a) ⊎ (a ≤ b) → (a < b) ⊎ ((a ≡ b) ⊎ (b < a))
    go (inl l) h = inl l
    go (inr g) (inl l) = inr (inr l)
    go (inr g) (inr h) = inr (inl (omega arith))

-- One of two days is earlier and has the lower number, or they are the same day.
abbrev Before : Date → Date → Type 0
Before d e = (earlier d e ≡ true) × (day_number d < day_number e)

abbrev Compared : Date → Date → Type 0
Compared d e = Before d e ⊎ ((d ≡ e) ⊎ Before e d)

compared : (d e : Date) → DateFacts d → DateFacts e → Compared d e
compared d e f g = years (three d.year e.year)
  where
    days : d.year ≡ e.year → d.month ≡ e.month → (d.day < e.day) ⊎ ((d.day ≡ e.day) ⊎ (e.day < d.day)) → Compared d e
    days s t (inl l) = inl (earlier-day d e f g s t l, by-day d e f g s t l)
    days s t (inr (inl u)) = inr (inl (λ i. record { year = s i; month = t i; day = u i }))
    days s t (inr (inr l)) = inr (inr (earlier-day e d g f (sym s) (sym t) l, by-day e d g f (sym s) (sym t) l))

    months : d.year ≡ e.year → (d.month < e.month) ⊎ ((d.month ≡ e.month) ⊎ (e.month < d.month)) → Compared d e
    months s (inl l) = inl (earlier-month d e f g s l, by-month d e f g s l)
    months s (inr (inl t)) = days s t (three d.day e.day)
    months s (inr (inr l)) = inr (inr (earlier-month e d g f (sym s) l, by-month e d g f (sym s) l))

    years : (d.year < e.year) ⊎ ((d.year ≡ e.year) ⊎ (e.year < d.year)) → Compared d e
    years (inl l) = inl (earlier-year d e f g l, by-year d e f g l)
    years (inr (inl s)) = months s (three d.month e.month)
    years (inr (inr l)) = inr (inr (earlier-year e d g f l, by-year e d g f l))

-- The order of dates is the order of their numbers.
module _ (d e : Date) (f : DateFacts d) (g : DateFacts e) where
  abbrev by_day : Bool
  by_day = eqb d.month e.month && ltb d.day e.day

  lower : earlier d e ≡ true → day_number d < day_number e
  unfolding earlier
  lower h = by (or_cases (ltb d.year e.year) _ h)
    where
      rest : d.year ≡ e.year → (ltb d.month e.month ≡ true) ⊎ (by_day ≡ true) → day_number d < day_number e
      rest s (inl l) = by-month d e f g s (ltb-true d.month e.month l)
      rest s (inr k) =
          by-day d e f g s (eqb-true d.month e.month (and_left (eqb d.month e.month) (ltb d.day e.day) k))
          (ltb-true d.day e.day (and_right (eqb d.month e.month) (ltb d.day e.day) k))

      by : (ltb d.year e.year ≡ true) ⊎ ((eqb d.year e.year && (ltb d.month e.month || by_day)) ≡ true) → day_number d < day_number e
      by (inl l) = by-year d e f g (ltb-true d.year e.year l)
      by (inr k) =
          rest (eqb-true d.year e.year (and_left (eqb d.year e.year) _ k))
          (or_cases (ltb d.month e.month) _ (and_right (eqb d.year e.year) _ k))

  raised : day_number d < day_number e → earlier d e ≡ true
  raised l = by (compared d e f g)
    where
      by : Compared d e → earlier d e ≡ true
      by (inl h) = h.0
      by (inr (inl s)) = absurd (let z : day_number d ≡ day_number e = ap day_number s in let x : ⊥ = omega arith in x)
      by (inr (inr h)) = absurd (let x : ⊥ = omega (arith, h.1) in x)

  pub in_order : (earlier d e ≡ true) ↔ (day_number d < day_number e)
  in_order = (lower, raised)

  -- A number is one day's.
  pub one-day : day_number d ≡ day_number e → d ≡ e
  one-day n = by (compared d e f g)
    where
      by : Compared d e → d ≡ e
      by (inl h) = absurd (let x : ⊥ = omega (arith, h.1) in x)
      by (inr (inl s)) = s
      by (inr (inr h)) = absurd (let x : ⊥ = omega (arith, h.1) in x)
