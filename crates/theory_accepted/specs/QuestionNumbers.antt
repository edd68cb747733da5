-- The numbers with which questions in order can refuse, for any bytes given as a tree.
use Rattle.std.specs.Prelude.{List, [], ◌∷◌, ◌++◌, Bool, true, false, cond, ◌&&◌, ◌≡◌, refl, ◌⊎◌, ℕ, zero, suc, ◌≤◌, eqb}
use Rattle.std.proofs.Common.{ap, inl, inr, arith}
use Rattle.format.specs.Layout as at
use Rattle.format.specs.TreeReading.{links_ok, text_of, edges_true, counts_true, header_result, check_result, ask, asks}
use Rattle.format.specs.Answers.{Answer, refused, unless}
use Rattle.format.specs.AnswerLaws.{then_is}

-- n is one of the list
abbrev pub OneOf : List ℕ → ℕ → Type 0
OneOf [] n = ⊥
OneOf (x ∷ xs) n = (n ≡ x) ⊎ OneOf xs n

pub of_left : (xs ys : List ℕ) (n : ℕ) → OneOf xs n → OneOf (xs ++ ys) n
of_left [] ys n h = absurd h
of_left (x ∷ xs) ys n (inl e) = inl e
of_left (x ∷ xs) ys n (inr h) = inr (of_left xs ys n h)

pub of_right : (xs ys : List ℕ) (n : ℕ) → OneOf ys n → OneOf (xs ++ ys) n
of_right [] ys n h = h
of_right (x ∷ xs) ys n h = inr (of_right xs ys n h)

pub of-more : (xs ys : List ℕ) (x n : ℕ) → OneOf (xs ++ ys) n → OneOf (xs ++ x ∷ ys) n
of-more [] ys x n h = inr h
of-more (y ∷ xs) ys x n (inl e) = inl e
of-more (y ∷ xs) ys x n (inr h) = inr (of-more xs ys x n h)

-- One that is not 0.
pub not-zero : (xs : List ℕ) (n : ℕ) → 1 ≤ n → OneOf (xs ++ 0 ∷ []) n → OneOf xs n
not-zero [] n low (inl e) = omega arith
not-zero [] n low (inr h) = h
not-zero (x ∷ xs) n low (inl e) = inl e
not-zero (x ∷ xs) n low (inr h) = inr (not-zero xs n low h)

abbrev pub numbers : List (ℕ × Bool) → List ℕ
numbers [] = 0 ∷ []
numbers (q ∷ qs) = q.0 ∷ numbers qs

pub asks-one : (qs : List (ℕ × Bool)) → OneOf (numbers qs) (asks qs)
asks-one [] = inl refl
asks-one (q ∷ qs) = go q.1 (asks-one qs)
  where
    go : (b : Bool) → OneOf (numbers qs) (asks qs) → OneOf (q.0 ∷ numbers qs) (ask q.0 b (asks qs))
    go true h = inr h
    go false h = inl refl

-- Questions, then what follows where they let it through.
pub unless-one : (xs ys : List ℕ) (n : ℕ) (s : Answer) → OneOf (xs ++ 0 ∷ []) n → OneOf ys s.number → OneOf (xs ++ ys) (unless n s).number
unless-one xs ys zero s h k = of_right xs ys s.number k
unless-one xs ys (suc n) s h k = of_left xs ys (suc n) (not-zero xs (suc n) (omega arith) h)

-- The same for numbers without figures.
pub then_one : (xs ys : List ℕ) (n rest : ℕ) → OneOf (xs ++ 0 ∷ []) n → OneOf ys rest → OneOf (xs ++ ys) (cond (eqb n 0) rest n)
then_one xs ys n rest h k = rw (then_is n rest) (unless-one xs ys n (refused rest) h k)

-- Questions 5 to 7.
pub header-one : (t : List ℕ) → OneOf (5 ∷ 6 ∷ 7 ∷ 0 ∷ []) (header_result t)
unfolding header_result
header-one t = asks-one ((5, at.holds_header t) ∷ (6, at.layout_ok t) ∷ (7, at.is_header_ok t) ∷ [])

-- Questions 5 to 9.
pub checked-one : (t : List ℕ) → OneOf (5 ∷ 6 ∷ 7 ∷ 8 ∷ 9 ∷ 0 ∷ []) (check_result t)
unfolding check_result
checked-one t =
    asks-one ((5, at.holds_header t) ∷ (6, at.layout_ok t) ∷ (7, at.is_header_ok t) ∷ (8, links_ok t) ∷ (9, counts_true (text_of t) t && edges_true (text_of t) t) ∷ [])

-- The refusal of an answer that follows questions, if it is refused and if not.
pub answers-refused : (n m v w : ℕ) → 1 ≤ n → refused n ≡ unless m (record { number = 0; value = v; entered = w }) → n ≡ m
answers-refused n zero v w low e = absurd (let z : n ≡ 0 = ap (λ (s : Answer). s.number) e in omega arith)
answers-refused n (suc m) v w low e = ap (λ (s : Answer). s.number) e

pub answers-answer : (x y m v w : ℕ) → record { number = 0; value = x; entered = y } ≡ unless m (record { number = 0; value = v; entered = w })
    → (m ≡ 0) × (x ≡ v) × (y ≡ w)
answers-answer x y zero v w e = (refl, ap (λ (s : Answer). s.value) e, ap (λ (s : Answer). s.entered) e)
answers-answer x y (suc m) v w e = absurd (let z : ◌≡◌ {A = ℕ} 0 (suc m) = ap (λ (s : Answer). s.number) e in omega arith)
