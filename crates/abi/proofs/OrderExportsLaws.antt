-- The order of two trees, as numbers.
use Rattle.std.specs.Prelude.{Result}
use Rattle.std.specs.declared.cmp.Ordering.{Ordering}
use Rattle.refusals.specs.declared.Refusal.{Refusal}
use mathlib.Core.List.{List}
use mathlib.Core.Path.{◌≡◌, ap}
use Prim.Native.Nat.{ℕ}
use Rattle.format.specs.Answers.{Answer, replied}
use Rattle.query_compare.specs.OrderAnswers.{compare_answer, compare_reply, IsCompareAnswer, first_given}

-- The figures of an answer, and which tree comes first.
abbrev pub Figures : List ℕ → List ℕ → Answer → Type 0
Figures t u s = (s ≡ compare_answer t u) × (first_given s.value ≡ first_given (compare_answer t u).value)

pub order-answered : (t u : List ℕ) (r : Result (Ordering × ℕ) Refusal) → IsCompareAnswer t u r
    → (x : Result (Ordering × ℕ) Refusal) → r ≡ x → Figures t u (replied (compare_reply x))
order-answered t u r a x e =
    let z : replied (compare_reply x) ≡ compare_answer t u = rw e at a.answers in
    (z, ap (λ (s : Answer). first_given s.value) z)
