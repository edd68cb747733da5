-- The answers of build_scanned, by variants.
use Rattle.std.specs.Prelude.{Result, Ok, Err}
use Rattle.refusals.specs.declared.Refusal.{Refusal}
use Rattle.refusals.specs.Refusals.{refusal_number}
use mathlib.Core.List.{List}
use mathlib.Core.Path.{◌≡◌, sym, ap, ◌∙◌, subst}
use Prim.Native.Nat.{ℕ}
use Rattle.format.specs.Answers.{replied}
use Rattle.build_by_scan.specs.ScanAnswers.{build_scanned_reply, TableLeft}

module _ (r : Result (ℕ × ℕ) Refusal) (number size windows : ℕ) (n-is : (replied (build_scanned_reply r)).number ≡ number)
    (s-is : (replied (build_scanned_reply r)).value ≡ size) (w-is : (replied (build_scanned_reply r)).entered ≡ windows) (old new : List ℕ)
    (left : TableLeft (replied (build_scanned_reply r)).number old new) where
  pub scan-answered : (n w : ℕ) → r ≡ Ok (n, w) → (0 ≡ number) × (n ≡ size) × (w ≡ windows) × TableLeft 0 old new
  scan-answered n w e = (
    sym (ap (λ (x : Result (ℕ × ℕ) Refusal). (replied (build_scanned_reply x)).number) e)
        ∙ n-is,
    sym (ap (λ (x : Result (ℕ × ℕ) Refusal). (replied (build_scanned_reply x)).value) e) ∙ s-is,
    sym (ap (λ (x : Result (ℕ × ℕ) Refusal). (replied (build_scanned_reply x)).entered) e) ∙ w-is,
    subst (λ (x : Result (ℕ × ℕ) Refusal). TableLeft (replied (build_scanned_reply x)).number old new) e left,
  )

  pub scan-refused : (q : Refusal) → r ≡ Err q → (refusal_number q ≡ number) × (0 ≡ size) × (0 ≡ windows) × TableLeft (refusal_number q) old new
  scan-refused q e = (
    sym (ap (λ (x : Result (ℕ × ℕ) Refusal). (replied (build_scanned_reply x)).number) e)
        ∙ n-is,
    sym (ap (λ (x : Result (ℕ × ℕ) Refusal). (replied (build_scanned_reply x)).value) e) ∙ s-is,
    sym (ap (λ (x : Result (ℕ × ℕ) Refusal). (replied (build_scanned_reply x)).entered) e) ∙ w-is,
    subst (λ (x : Result (ℕ × ℕ) Refusal). TableLeft (replied (build_scanned_reply x)).number old new) e left,
  )
