-- Laws of written days.
use mathlib.Core.List.{List, [], ◌∷◌}
use mathlib.Core.Bool.{Bool, true, false, cond, ◌&&◌}
use mathlib.Core.Path.{◌≡◌, refl, sym, ap, ◌∙◌}
use Prim.Native.Nat.{ℕ, zero, suc, ◌+◌, ◌*◌, ◌/◌, ◌≤◌, ◌<◌}
use native.Mathlib.Omega.{arith}
use lib.ListN.{length, take, get_or, set}
use lib.Dec.{leb, eqb}
use borrow.Author.Tests.{leb-true, le-leb, lt-leb, eqb-true, ne_eqb, eq-eqb}
use lib.Seq.{ext_get_or}
use Rattle.std.specs.Prelude.{Option, Some, None, Result, Ok, Err}
use Rattle.std.specs.Bool.{then_some}
use Rattle.std.specs.Option.{ok_or}
use Rattle.std.specs.List.{list_all}
use Rattle.std.proofs.Math.Bool.{and_assoc, and-true}
use Rattle.refusals.specs.declared.Refusal.{Refusal}
use Rattle.refusals.specs.declared.Refusal.TheVariants as refused
use Rattle.text.specs.Text.{tabulate, all_below, is_digit}
use Rattle.text.specs.ListLaws.{and_left, and_right, length-tabulate, get_or-tabulate}
use Rattle.licence.specs.declared.calendar.Date.{Date}
use Rattle.licence.specs.Licence.{is_date, pair_at, date_in, is_day, ones, written, number_in, day_number}
use Rattle.licence.specs.CalendarDays.{DateFacts}
use Rattle.licence.specs.CalendarLaws.{date-facts}
use Rattle.licence.specs.TermSteps.{day_read, number_read}

-- A digit is 48 to 57.
pub digit_low : (x : ℕ) → is_digit x ≡ true → 48 ≤ x
unfolding is_digit
digit_low x h = leb-true 48 x (and_left (leb 48 x) (leb x 57) h)

pub digit-high : (x : ℕ) → is_digit x ≡ true → x ≤ 57
unfolding is_digit
digit-high x h = leb-true x 57 (and_right (leb 48 x) (leb x 57) h)

pub digit-below : (x : ℕ) → x < 48 → is_digit x ≡ false
unfolding is_digit
digit-below x h = rw (lt-leb 48 x h)

pub digit-above : (x : ℕ) → 48 ≤ x → 57 < x → is_digit x ≡ false
unfolding is_digit
digit-above x low h = rw (le-leb 48 x low, lt-leb x 57 h)

pub digit-is : (x : ℕ) → 48 ≤ x → x ≤ 57 → is_digit x ≡ true
unfolding is_digit
digit-is x low h = rw (le-leb 48 x low, le-leb x 57 h)

-- A test of each of the first n items, from the first on.
all-front : (n : ℕ) (p : ℕ → Bool) → all_below (suc n) p ≡ (p 0 && all_below n (λ i. p (suc i)))
unfolding all_below
all-front zero p = sym (and-true (p 0))
all-front (suc n) p = ap (λ b. b && p (suc n)) (all-front n p) ∙ and_assoc (p 0) (all_below n (λ i. p (suc i))) (p (suc n))

pub all-taken : (p : ℕ → Bool) (n : ℕ) (xs : List ℕ) → n ≤ length xs → list_all p (take n xs) ≡ all_below n (λ i. p (get_or xs i 0))
unfolding all_below
all-taken p zero xs h = refl
all-taken p (suc n) [] h = absurd (let x : ⊥ = omega arith in x)
all-taken p (suc n) (x ∷ xs) h = ap (λ b. p x && b) (all-taken p n xs (omega arith)) ∙ sym (all-front n (λ i. p (get_or (x ∷ xs) i 0)))

-- A list is that of its entries, so eight bytes written one after the other are all of a list of eight.
entries : (n : ℕ) (l : List ℕ) → length l ≡ n → l ≡ tabulate n (λ i. get_or l i 0)
entries n l e =
    ext_get_or 0 l (tabulate n (λ i. get_or l i 0)) (e ∙ sym (length-tabulate n (λ i. get_or l i 0)))
    (λ i h. sym (get_or-tabulate n (λ i. get_or l i 0) i 0 (omega arith)))

eight : (l : List ℕ) → length l ≡ 8 → (a b c d e f g h : ℕ)
    → set (set (set (set (set (set (set (set l 0 a) 1 b) 2 c) 3 d) 4 e) 5 f) 6 g) 7 h ≡ a ∷ b ∷ c ∷ d ∷ e ∷ f ∷ g ∷ h ∷ []
unfolding tabulate
eight l z a b c d e f g h = ap (λ (k : List ℕ). set (set (set (set (set (set (set (set k 0 a) 1 b) 2 c) 3 d) 4 e) 5 f) 6 g) 7 h) (entries 8 l z)

pub eight-written : (l : List ℕ) → length l ≡ 8 → (d : Date) (a b c e f g h i : ℕ)
    → a ≡ ones (d.year / 1000) → b ≡ ones (d.year / 100) → c ≡ ones (d.year / 10) → e ≡ ones d.year
    → f ≡ ones (d.month / 10) → g ≡ ones d.month → h ≡ ones (d.day / 10) → i ≡ ones d.day
    → set (set (set (set (set (set (set (set l 0 a) 1 b) 2 c) 3 e) 4 f) 5 g) 6 h) 7 i ≡ written d
unfolding written
eight-written l z d a b c e f g h i p q r s t u v w = rw (p, q, r, s, t, u, v, w) (eight l z _ _ _ _ _ _ _ _)

-- What a written day is read as.
module _ (xs : List ℕ) where
  abbrev all : Bool
  all = all_below 8 (λ i. is_digit (get_or xs i 0))

  pub read-long : (length xs ≡ 8 → ⊥) → None ≡ day_read xs
  unfolding day_read is_day
  read-long h = rw (ne_eqb (length xs) 8 h)

  pub read-other : length xs ≡ 8 → all ≡ false → None ≡ day_read xs
  unfolding day_read is_day
  read-other h a = rw (eq-eqb (length xs) 8 h, a)

  -- The date, as it was put together.
  date-is : (a b c e : ℕ) → a ≡ pair_at xs 0 → b ≡ pair_at xs 2 → c ≡ pair_at xs 4 → e ≡ pair_at xs 6
      → ◌≡◌ {A = Date} (record { year = 100 * a + b; month = c; day = e }) (date_in xs)
  unfolding date_in
  date-is a b c e p q r s = rw (p, q, r, s)

  pub read-date : length xs ≡ 8 → all ≡ true → (a b c e : ℕ) → a ≡ pair_at xs 0 → b ≡ pair_at xs 2 → c ≡ pair_at xs 4 → e ≡ pair_at xs 6
      → (is : Bool) → is ≡ is_date (record { year = 100 * a + b; month = c; day = e })
      → then_some is (record { year = 100 * a + b; month = c; day = e }) ≡ day_read xs
  unfolding day_read is_day
  read-date h z a b c e p q r s is tested =
      let d = date-is a b c e p q r s in
      rw (eq-eqb (length xs) 8 h, z, ← d, ← tested) (by is _)
    where
      by : (b : Bool) (x : Date) → then_some b x ≡ cond b (Some x) None
      by true x = refl
      by false x = refl

  pub day-date : is_day xs ≡ true → DateFacts (date_in xs)
  unfolding is_day
  day-date h = date-facts (date_in xs) (and_right (eqb (length xs) 8 && all) (is_date (date_in xs)) h)

  pub day-long : is_day xs ≡ true → length xs ≡ 8
  unfolding is_day
  day-long h = eqb-true (length xs) 8 (and_left (eqb (length xs) 8) all (and_left (eqb (length xs) 8 && all) (is_date (date_in xs)) h))

-- What is read, or else the refusal: which of the two it was.
read-ok : {A : Type 0} (b : Bool) (x y : A) (e : Refusal) → Ok y ≡ cond b (Ok x) (Err e) → (b ≡ true) × (y ≡ x)
read-ok true x y e k = (refl, cc)
read-ok false x y e k = cc

read-err : {A : Type 0} (b : Bool) (x : A) (e f : Refusal) → Err f ≡ cond b (Ok x) (Err e) → (b ≡ false) × (f ≡ e)
read-err true x e f k = cc
read-err false x e f k = (refl, cc)

-- A day that is read, and one that is not.
module _ (xs : List ℕ) (o : Option Date) (read : o ≡ day_read xs) (r : Result Date Refusal) (asked : r ≡ ok_or o refused.NotADate) where
  date-asked : r ≡ cond (is_day xs) (Ok (date_in xs)) (Err refused.NotADate)
  unfolding day_read
  date-asked = asked ∙ ap (λ (x : Option Date). ok_or x refused.NotADate) read ∙ by (is_day xs)
    where
      by : (b : Bool) → ok_or (cond b (Some (date_in xs)) None) refused.NotADate ≡ cond b (Ok (date_in xs)) (Err refused.NotADate)
      by true = refl
      by false = refl

  pub good-is : (d : Date) → r ≡ Ok d → (is_day xs ≡ true) × (d ≡ date_in xs)
  good-is d is = read-ok (is_day xs) (date_in xs) d refused.NotADate (sym is ∙ date-asked)

  pub bad-is : (e : Refusal) → r ≡ Err e → (is_day xs ≡ false) × (e ≡ refused.NotADate)
  bad-is e is = read-err (is_day xs) (date_in xs) refused.NotADate e (sym is ∙ date-asked)

  pub good-date : (d : Date) → r ≡ Ok d → DateFacts d
  good-date d is = let k = good-is d is in rw k.1 (day-date xs k.0)

-- The number of a day that is read.
module _ (xs : List ℕ) where
  pub number-of-good : is_day xs ≡ true → (d : Date) → d ≡ date_in xs → (n : ℕ) → n ≡ day_number d → Ok n ≡ number_read xs
  unfolding number_read
  number-of-good g d is n e = rw (g, e, is)

  pub number-of-bad : is_day xs ≡ false → Err refused.NotADate ≡ number_read xs
  unfolding number_read
  number-of-bad b = rw b

  module _ (r : Result ℕ Refusal) (asked : r ≡ number_read xs) where
    pub number-good : (n : ℕ) → r ≡ Ok n → (is_day xs ≡ true) × (n ≡ number_in xs)
    unfolding number_read
    number-good n is = read-ok (is_day xs) (number_in xs) n refused.NotADate (sym is ∙ asked)

    pub number-bad : (e : Refusal) → r ≡ Err e → (is_day xs ≡ false) × (e ≡ refused.NotADate)
    unfolding number_read
    number-bad e is = read-err (is_day xs) (number_in xs) refused.NotADate e (sym is ∙ asked)
