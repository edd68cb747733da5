-- An order is never 0, so that a refusal's number is not 0.
use mathlib.Core.List.{List}
use mathlib.Core.Bool.{Bool, true, false, cond}
use mathlib.Core.Path.{◌≡◌}
use Prim.Native.Nat.{ℕ, zero, suc, ◌+◌, ◌≤◌, min}
use native.Mathlib.Omega.{arith}
use lib.Dec.{ltb}
use Rattle.format.specs.Answers.{Answer, unless, byte_answer}
use Rattle.format.specs.Layout as at
use Rattle.format.specs.TreeReading.{header_result}
use Rattle.query_compare.specs.OrderAnswers.{by_lengths, compared_from, compare_answer}

abbrev OrderGiven : Answer → Type 0
OrderGiven s = s.number ≡ 0 → 1 ≤ s.value

answered-or : (n : ℕ) (s : Answer) → OrderGiven s → OrderGiven (unless n s)
answered-or zero s k = k
answered-or (suc q) s k = λ e. absurd (let z : ⊥ = omega arith in z)

answered-cond : (b : Bool) (x y : Answer) → OrderGiven x → OrderGiven y → OrderGiven (cond b x y)
answered-cond true x y k l = k
answered-cond false x y k l = l

answered-from : (t u : List ℕ) (more p : ℕ) → OrderGiven (compared_from t u more p)
unfolding compared_from by_lengths
answered-from t u zero p =
    answered-cond (ltb (at.text_length t) (at.text_length u)) _ _ (λ e. omega arith)
    (answered-cond (ltb (at.text_length u) (at.text_length t)) _ _ (λ e. omega arith) (λ e. omega arith))
answered-from t u (suc more) p =
    let x = (byte_answer t p).value in
    let y = (byte_answer u p).value in
    answered-or (byte_answer t p).number _ (answered-or (byte_answer u p).number _
    (answered-cond (ltb x y) _ _ (λ e. omega arith) (answered-cond (ltb y x) _ _ (λ e. omega arith) (answered-from t u more (p + 1)))))

pub compare-answered : (t u : List ℕ) → (compare_answer t u).number ≡ 0 → 1 ≤ (compare_answer t u).value
unfolding compare_answer
compare-answered t u = answered-or (header_result t) _ (answered-or (header_result u) _ (answered-from t u (min (at.text_length t) (at.text_length u)) 0))
