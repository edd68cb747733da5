-- The answer of `without_edges` as two numbers.
use Rattle.std.specs.Prelude.{Result, Ok, Err}
use Rattle.refusals.specs.declared.Refusal.{Refusal}
use Rattle.refusals.specs.Refusals.{refusal_number}
use mathlib.Core.Path.{◌≡◌, sym, ap, ◌∙◌}
use Prim.Native.Nat.{ℕ}
use Rattle.format.specs.Answers.{replied}
use Rattle.build_without_edges.specs.WithoutEdgesAnswers.{without_edges_reply}

module _ (r : Result ℕ Refusal) (number size : ℕ) (n-is : (replied (without_edges_reply r)).number ≡ number)
    (s-is : (replied (without_edges_reply r)).value ≡ size) where
  pub without-edges-size : (n : ℕ) → r ≡ Ok n → (0 ≡ number) × (n ≡ size)
  without-edges-size n e = (
    sym (ap (λ (x : Result ℕ Refusal). (replied (without_edges_reply x)).number) e) ∙ n-is,
    sym (ap (λ (x : Result ℕ Refusal). (replied (without_edges_reply x)).value) e) ∙ s-is,
  )

  pub without-edges-refused : (q : Refusal) → r ≡ Err q → (refusal_number q ≡ number) × (0 ≡ size)
  without-edges-refused q e = (
    sym (ap (λ (x : Result ℕ Refusal). (replied (without_edges_reply x)).number) e) ∙ n-is,
    sym (ap (λ (x : Result ℕ Refusal). (replied (without_edges_reply x)).value) e) ∙ s-is,
  )
