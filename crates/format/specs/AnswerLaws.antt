-- Laws of answers: a refusal that is not 0 is the answer.
use Rattle.std.specs.Prelude.{List, [], ◌∷◌, Bool, true, false, cond, ◌&&◌, ◌≡◌, refl, ℕ, zero, suc, leb, eqb}
use Rattle.std.proofs.Common.{sym, ◌∙◌, arith, ne_eqb, leb-true}
use Rattle.text.specs.ListLaws.{and_left, and_right}
use Rattle.format.specs.Answers.{Answer, refused, unless}
use Rattle.format.specs.TreeReading.{ask, asks, or_next}

-- A refusal is passed on.
pub unless-refused : (n k q : ℕ) (a : Answer) → n ≡ suc k → q ≡ suc k → refused q ≡ unless n a
unless-refused n k q a e f = rw (e, f)

-- An answer that is not a refusal passed all questions.
pub unless-passes : (n : ℕ) (a : Answer) → (unless n a).number ≡ 0 → (n ≡ 0) × (a.number ≡ 0)
unless-passes zero a h = (refl, h)
unless-passes (suc n) a h = absurd (let z : ⊥ = omega arith in z)

-- Before an answer that is no refusal, the number is the questions'.
pub unless-number : (n : ℕ) (a : Answer) → a.number ≡ 0 → (unless n a).number ≡ n
unless-number zero a z = z
unless-number (suc n) a z = refl

-- The same for numbers without figures.
pub then_is : (n rest : ℕ) → cond (eqb n 0) rest n ≡ (unless n (refused rest)).number
then_is zero rest = refl
then_is (suc n) rest = rw (ne_eqb (suc n) 0 (λ e. omega arith))

-- No question refuses: the first ones do not, and the next ones do not.
pub next-passes : (n rest : ℕ) → or_next n rest ≡ 0 → (n ≡ 0) × (rest ≡ 0)
next-passes n rest h = unless-passes n (refused rest) (sym (then_is n rest) ∙ h)

-- The refusal of the first questions is the refusal.
pub next-refused : (n rest q : ℕ) → n ≡ suc q → or_next n rest ≡ suc q
next-refused n rest q e = rw (e, ne_eqb (suc q) 0 (λ z. omega arith))

-- Every test of the table holds.
abbrev pub AllPass : List (ℕ × Bool) → Type 0
AllPass [] = Unit {0}
AllPass (q ∷ qs) = (q.1 ≡ true) × AllPass qs

-- No question of the table has the number 0.
abbrev pub no_zero_answer : List (ℕ × Bool) → Bool
no_zero_answer [] = true
no_zero_answer (q ∷ qs) = leb 1 q.0 && no_zero_answer qs

-- Where a table does not refuse, each of its tests holds.
pub asks-pass : (qs : List (ℕ × Bool)) → no_zero_answer qs ≡ true → asks qs ≡ 0 → AllPass qs
asks-pass [] k h = tt
asks-pass (q ∷ qs) k h = go q.1 refl h (asks-pass qs (and_right (leb 1 q.0) (no_zero_answer qs) k))
  where
    go : (b : Bool) → q.1 ≡ b → ask q.0 b (asks qs) ≡ 0 → (asks qs ≡ 0 → AllPass qs) → (q.1 ≡ true) × AllPass qs
    go true e g rest = (e, rest g)
    go false e g rest = absurd (let z : ⊥ = omega (arith, leb-true 1 q.0 (and_left (leb 1 q.0) (no_zero_answer qs) k)) in z)
