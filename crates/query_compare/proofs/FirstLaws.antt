-- The tree that `first` returns, by the outcome of the comparison.
use Rattle.std.specs.Prelude.{Result, Err}
use Rattle.std.specs.declared.cmp.Ordering.{Ordering}
use Rattle.std.specs.declared.cmp.Ordering.TheVariants.{Less, Equal, Greater}
use Rattle.refusals.specs.declared.Refusal.{Refusal}
use Rattle.refusals.specs.Refusals.{refusal_number}
use Rattle.refusals.specs.RefusalsLaws.{number-above}
use mathlib.Core.List.{List, []}
use mathlib.Core.Bool.{cond}
use mathlib.Core.Path.{◌≡◌, refl}
use Prim.Native.Nat.{ℕ}
use native.Mathlib.Omega.{arith}
use denote.Ref.{Bor}
use lib.Dec.{eqb}
use Rattle.format.specs.Answers.{refused}
use Rattle.query_compare.specs.OrderAnswers.{code, order_answer, compare_answer, IsCompareAnswer, IsFirstAnswer}
use Rattle.query_compare.specs.TextOrder.{outcome, first_of}

module _ (t u : List ℕ) (x : Result (Ordering × ℕ) Refusal) (a : IsCompareAnswer t u x) (one other : Bor (List ℕ)) where
  -- An answer: the whole tree that comes first.
  pub first-whole : (s : Ordering) (n : ℕ) → x ≡ outcome s n
      → (order_answer s n ≡ compare_answer t u) × IsFirstAnswer (compare_answer t u) one other (first_of s one other)
  first-whole s n e =
      let z : order_answer s n ≡ compare_answer t u = rw e at a.answers in
      (z, rw (← z) (record { given = λ y. whole s; absent = λ y. absurd (let w : ⊥ = omega arith in w) }))
    where
      whole : (s : Ordering) → first_of s one other ≡ cond (eqb (code s) 3) other one
      whole Less = refl
      whole Equal = refl
      whole Greater = refl

  -- A refusal: the part is empty.
  pub first-empty : (q : Refusal) (r : Bor (List ℕ)) → x ≡ Err q → r.now ≡ []
      → (refused (refusal_number q) ≡ compare_answer t u) × IsFirstAnswer (compare_answer t u) one other r
  first-empty q r e empty =
      let low = number-above q in
      let z : refused (refusal_number q) ≡ compare_answer t u = rw e at a.answers in
      (z, rw (← z) (record { given = λ y. absurd (let w : ⊥ = omega arith in w); absent = λ y. empty }))
