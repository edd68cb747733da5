-- Licence dates, as numbers.
use mathlib.Core.List.{List}
use mathlib.Core.Bool.{Bool, true, false, cond}
use mathlib.Core.Path.{◌≡◌, refl, sym, ap, ◌∙◌}
use Prim.Native.Nat.{ℕ}
use lib.IntN.{ℤ, pos}
use mir.Val.{bool_byte}
use Rattle.std.specs.Prelude.{Result, Ok, Err}
use Rattle.refusals.specs.declared.Refusal.{Refusal}
use Rattle.refusals.specs.Refusals.{refusal_number, result_refusal}
use Rattle.licence.specs.Licence.{open_on_refusal, open_on, days_left_refusal, days_left, open_on_reply, IsOpenOnAnswer, days_left_reply, IsDaysLeftAnswer}

-- Days left.
module _ (last today : List ℕ) (r : Result ℤ Refusal) (k : IsDaysLeftAnswer last today r) where
  pub left-answered : (z : ℤ) → r ≡ Ok z → (0 ≡ days_left_refusal last today) × (z ≡ days_left last today)
  left-answered z e = (sym (ap result_refusal e) ∙ k.number_is, sym (ap days_left_reply e) ∙ k.days_is)

  pub left-refused : (e : Refusal) → r ≡ Err e → (refusal_number e ≡ days_left_refusal last today) × (pos 0 ≡ days_left last today)
  left-refused n e = (sym (ap result_refusal e) ∙ k.number_is, sym (ap days_left_reply e) ∙ k.days_is)

-- The figure of a truth value.
pub truth-figure : (b : Bool) → bool_byte b ≡ cond {A = ℕ} b 1 0
truth-figure true = refl
truth-figure false = refl

-- open
module _ (first last today : List ℕ) (r : Result Bool Refusal) (k : IsOpenOnAnswer first last today r) where
  pub open_is : (s : Result Bool Refusal) → r ≡ s
      → (result_refusal s ≡ open_on_refusal first last today) × (◌≡◌ {A = ℕ} (cond (open_on_reply s) 1 0) (cond (open_on first last today) 1 0))
  open_is s e = (sym (ap result_refusal e) ∙ k.number_is, ap (λ (b : Bool). cond {A = ℕ} b 1 0) (sym (ap open_on_reply e) ∙ k.open_is))
