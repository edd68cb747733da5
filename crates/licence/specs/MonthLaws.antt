-- Laws of months and years: what is known of their lengths, each table shown once over its whole range by a computed test.
use Rattle.std.specs.Prelude.{List, [], ◌∷◌, Bool, true, false, cond, ◌&&◌, ◌≡◌, refl, ℕ, zero, suc, ◌+◌, ◌-◌, ◌≤◌, ◌<◌, get_or, ltb, leb, eqb}
use Rattle.std.proofs.Common.{arith}
use borrow.Author.Tests.{leb-true, eqb-true}
use Rattle.text.specs.Text.{sum_below, all_below}
use Rattle.text.specs.ListLaws.{and_left, and_right, all_below-at, sum_below-suc}
use Rattle.licence.specs.Licence.{leap, lengths, month_length, year_length, before_year, before_month}

-- Months other than February have the same length whatever that one has.
pub same-but : (x z k : ℕ) → (k ≡ 1 → ⊥) → get_or (lengths x) k 0 ≡ get_or (lengths z) k 0
same-but x z zero h = refl
same-but x z (suc zero) h = absurd (h refl)
same-but x z (suc (suc k)) h = refl

pub same-month : (y z m : ℕ) → 1 ≤ m → (m ≡ 2 → ⊥) → month_length y m ≡ month_length z m
unfolding month_length
same-month y z m low h = same-but (cond (leap y) 29 28) (cond (leap z) 29 28) (m - 1) (λ e. h (omega arith))

-- February
pub february : (y : ℕ) → month_length y 2 ≡ cond (leap y) 29 28
unfolding month_length
february y = refl

-- A month has 28 to 31 days.
abbrev within_bounds : Bool → ℕ → Bool
within_bounds b k = leb 28 (get_or (lengths (cond b 29 28)) k 0) && leb (get_or (lengths (cond b 29 28)) k 0) 31

bounds-test : (b : Bool) → all_below 12 (within_bounds b) ≡ true
unfolding all_below
bounds-test true = refl
bounds-test false = refl

module _ (y m : ℕ) (low : 1 ≤ m) (high : m ≤ 12) where
  within-bounds : within_bounds (leap y) (m - 1) ≡ true
  within-bounds = all_below-at 12 (within_bounds (leap y)) (bounds-test (leap y)) (m - 1) (omega arith)

  pub month-long : 28 ≤ month_length y m
  unfolding month_length
  month-long = leb-true 28 _ (and_left _ _ within-bounds)

  pub month-short : month_length y m ≤ 31
  unfolding month_length
  month-short = leb-true _ 31 (and_right (leb 28 (get_or (lengths (cond (leap y) 29 28)) (m - 1) 0)) _ within-bounds)

-- A year has 365 days, with a 29 February 366.
year-days-by : (b : Bool) → sum_below 12 (λ i. get_or (lengths (cond b 29 28)) (i + 1 - 1) 0) ≡ 365 + cond b 1 0
unfolding sum_below
year-days-by true = refl
year-days-by false = refl

pub year-days : (y : ℕ) → year_length y ≡ 365 + cond (leap y) 1 0
unfolding year_length month_length
year-days y = year-days-by (leap y)

-- The days before a month: those of a year without a 29 February, and one more past February of a year that has one.
abbrev pub befores : List ℕ
befores = 0 ∷ 31 ∷ 59 ∷ 90 ∷ 120 ∷ 151 ∷ 181 ∷ 212 ∷ 243 ∷ 273 ∷ 304 ∷ 334 ∷ []

abbrev before_in : Bool → ℕ → ℕ
before_in b k = sum_below k (λ i. get_or (lengths (cond b 29 28)) (i + 1 - 1) 0)

abbrev before_is : Bool → ℕ → ℕ
before_is b k = get_or befores k 0 + cond (ltb 1 k && b) 1 0

befores-test : (b : Bool) → all_below 12 (λ k. eqb (before_in b k) (before_is b k)) ≡ true
unfolding all_below sum_below
befores-test true = refl
befores-test false = refl

befores-are : (b : Bool) (k : ℕ) → k < 12 → before_in b k ≡ before_is b k
befores-are b k h = eqb-true (before_in b k) (before_is b k) (all_below-at 12 (λ k. eqb (before_in b k) (before_is b k)) (befores-test b) k h)

pub months-before : (y m : ℕ) → 1 ≤ m → m ≤ 12 → before_month y m ≡ get_or befores (m - 1) 0 + cond (ltb 1 (m - 1) && leap y) 1 0
unfolding month_length
months-before y m low high = befores-are (leap y) (m - 1) (omega arith)

-- From a year to the next, and from a month.
pub year-after : (year : ℕ) → 2000 ≤ year → before_year (year + 1) ≡ before_year year + year_length year
year-after year low =
    let e : year + 1 - 2000 ≡ year - 2000 + 1 = omega arith in
    let f : 2000 + (year - 2000) ≡ year = omega arith in
    rw (e, sum_below-suc (year - 2000) (λ i. year_length (2000 + i)), f)

pub month-after : (year month : ℕ) → 1 ≤ month → before_month year (month + 1) ≡ before_month year month + month_length year month
month-after year month low =
    let e : month + 1 - 1 ≡ month - 1 + 1 = omega arith in
    let f : month - 1 + 1 ≡ month = omega arith in
    rw (e, sum_below-suc (month - 1) (λ i. month_length year (i + 1)), f)

-- The months of a year.
pub year-months : (year : ℕ) → year_length year ≡ before_month year 12 + month_length year 12
unfolding year_length
year-months year = sum_below-suc 11 (λ i. month_length year (i + 1))
