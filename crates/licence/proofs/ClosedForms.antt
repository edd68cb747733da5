-- The closed forms that the code computes, each shown once over its whole range by a computed test.
use mathlib.Core.Bool.{Bool, true, false, cond, ◌&&◌}
use mathlib.Core.Path.{◌≡◌, refl, sym, ap, ◌∙◌}
use Prim.Native.Nat.{ℕ, ◌+◌, ◌-◌, ◌*◌, ◌/◌, ◌≤◌, ◌<◌}
use native.Mathlib.Omega.{arith}
use lib.ListN.{get_or}
use lib.Dec.{leb, eqb}
use borrow.Author.Tests.{eqb-true, leb-true, lt-ltb, le-ltb}
use Rattle.std.specs.Prelude.{Option, Some}
use Rattle.std.proofs.Common.{Ordering}
use Rattle.std.specs.Ordering.{nat_cmp, partial_le, partial_lt}
use Rattle.std.proofs.lemmas.Bool.Decides.{nat_tests}
use Rattle.std.proofs.Math.Bool.{and_assoc}
use Rattle.text.specs.Text.{sum_below, all_below}
use Rattle.text.specs.ListLaws.{all_below-at, and-false}
use Rattle.licence.specs.declared.calendar.Date.{Date}
use Rattle.licence.specs.Licence.{leap, lengths, month_length, year_length, is_date, before_year, before_month, day_number}
use Rattle.licence.specs.CalendarDays.{DateFacts}
use Rattle.licence.specs.MonthLaws.{same-but, befores, months-before}

-- The days before a year.
abbrev years_right : ℕ → Bool
years_right k = eqb (sum_below k (λ i. year_length (2000 + i))) (365 * k + (k + 3) / 4)

years-test : all_below 100 years_right ≡ true
unfolding all_below sum_below year_length month_length leap
years-test = refl

pub years-before : (year : ℕ) → 2000 ≤ year → year ≤ 2099 → before_year year ≡ 365 * (year - 2000) + (year - 2000 + 3) / 4
years-before year low high =
    eqb-true (before_year year) (365 * (year - 2000) + (year - 2000 + 3) / 4)
    (all_below-at 100 years_right years-test (year - 2000) (omega arith))

-- None is above 335 with the 29 February.
most-test : all_below 12 (λ k. leb (get_or befores k 0) 334) ≡ true
unfolding all_below
most-test = refl

module _ (y m : ℕ) (low : 1 ≤ m) (high : m ≤ 12) where
  pub before_low : get_or befores (m - 1) 0 ≤ 334
  before_low = leb-true (get_or befores (m - 1) 0) 334 (all_below-at 12 (λ k. leb (get_or befores k 0) 334) most-test (m - 1) (omega arith))

  pub early-month : m ≤ 2 → get_or befores (m - 1) 0 ≡ before_month y m
  early-month few =
      let e = le-ltb 1 (m - 1) (omega arith) in
      sym (months-before y m low high ∙ rw e (omega arith))

  pub late-leap : 2 < m → leap y ≡ true → get_or befores (m - 1) 0 + 1 ≡ before_month y m
  late-leap late is = sym (months-before y m low high ∙ rw (lt-ltb 1 (m - 1) (omega arith), is))

  pub late-plain : 2 < m → leap y ≡ false → get_or befores (m - 1) 0 ≡ before_month y m
  late-plain late is = sym (months-before y m low high ∙ rw (lt-ltb 1 (m - 1) (omega arith), is) (omega arith))

-- The days of a month.
module _ (y m : ℕ) where
  pub february-leap : m ≡ 2 → leap y ≡ true → 29 ≡ month_length y m
  unfolding month_length
  february-leap two is = rw (two, is)

  pub february-plain : m ≡ 2 → leap y ≡ false → 28 ≡ month_length y m
  unfolding month_length
  february-plain two is = rw (two, is)

  pub other-month : 1 ≤ m → (m ≡ 2 → ⊥) → get_or (lengths 28) (m - 1) 0 ≡ month_length y m
  unfolding month_length
  other-month low other = same-but 28 (cond (leap y) 29 28) (m - 1) (λ e. other (omega arith))

-- A day's number, as it is added up.
pub number_is : (d : Date) → DateFacts d → (months : ℕ) → months ≡ before_month d.year d.month
    → 365 * (d.year - 2000) + (d.year - 2000 + 3) / 4 + months + (d.day - 1) ≡ day_number d
unfolding day_number
number_is d f months e = rw (e, ← years-before d.year f.year_low f.year_high)

-- What a range that includes both ends contains.
abbrev order : ℕ → ℕ → Option Ordering
order x y = Some (nat_cmp x y)

partial-le : (x y : ℕ) → partial_le order x y ≡ leb x y
partial-le x y = grind (arith, nat_tests)

pub ranged : (a b x s e : ℕ) (spent r : Bool) → r ≡ (partial_le order s x && cond spent (partial_lt order x e) (partial_le order x e))
    → s ≡ a → e ≡ b → spent ≡ false → r ≡ (leb a x && leb x b)
ranged a b x s e spent r is p q fresh =
    is ∙ ap (λ (t : Bool). partial_le order s x && cond t (partial_lt order x e) (partial_le order x e)) fresh
    ∙ ap (λ (t : Bool). t && partial_le order x e) (partial-le s x) ∙ ap (λ (t : Bool). leb s x && t) (partial-le x e) ∙ rw (p, q)

-- A date is tested by its year, its month and its day.
module _ (d : Date) where
  abbrev of_year : Bool
  of_year = leb 2000 d.year && leb d.year 2099

  abbrev of_month : Bool
  of_month = leb 1 d.month && leb d.month 12

  abbrev of_day : Bool
  of_day = leb 1 d.day && leb d.day (month_length d.year d.month)

  tests : is_date d ≡ (of_year && of_month && of_day)
  unfolding is_date
  tests =
      and_assoc (of_year && leb 1 d.month && leb d.month 12) (leb 1 d.day) (leb d.day (month_length d.year d.month))
      ∙ ap (λ (b : Bool). b && of_day) (and_assoc of_year (leb 1 d.month) (leb d.month 12))

  pub last_test : (y m r : Bool) → y ≡ of_year → m ≡ of_month → r ≡ of_day → y ≡ true → m ≡ true → r ≡ is_date d
  last_test y m r p q s t u = s ∙ sym (tests ∙ rw (← p, ← q, t, u))

  pub no_year : (y r : Bool) → y ≡ of_year → r ≡ y → r ≡ false → r ≡ is_date d
  no_year y r p is f = f ∙ sym (tests ∙ rw (← p, ← is, f))

  pub no_month : (y m r : Bool) → y ≡ of_year → m ≡ of_month → r ≡ m → r ≡ false → r ≡ is_date d
  no_month y m r p q is f = f ∙ sym (tests ∙ rw (← q, ← is, f, and-false of_year))
