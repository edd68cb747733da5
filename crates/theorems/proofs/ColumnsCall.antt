-- to_columns(text, width, out) and from_columns(text, width, out): a text of rows of one width rearranged by columns, and back.
use mathlib.Core.List.{[], ◌∷◌}
use mathlib.Core.Bool.{Bool, true, false, cond}
use mathlib.Core.Path.{◌≡◌, refl, ◌∙◌}
use mathlib.Core.Logic.{◌⊎◌, inl, inr}
use Prim.Native.Nat.{ℕ}
use contract.Lifetimes.{Lfts}
use lib.ListN.{length}
use lib.Dec.{leb}
use Rattle.std.specs.Prelude.{Result, Ok, Err}
use Rattle.refusals.specs.declared.Refusal.{Refusal}
use Rattle.refusals.specs.declared.Refusal.TheVariants as refused
use Rattle.refusals.specs.Refusals.{result_refusal}
use Rattle.refusals.specs.RefusalsLaws.{refused-as, answered-with}
use Rattle.columns.specs.Columns.{width_ok, refusal_of, columns_refusal}
use Rattle.theorems.specs.PublicFunctions.{from_columns_function, to_columns_function}
use Rattle.theorems.proofs.PublicCall.{Call, Borrowed, BorrowedMut, call}
use Rattle.theorems.proofs.RefusalNumbers.{OneOf}
use Rattle.columns.proofs.to_columns.Met as to-columns-met
use Rattle.columns.proofs.from_columns.Met as from-columns-met
-- What the contracts allow, where the output is left as `after`: `ToColumns κs text width out after r`, and `FromColumns` alike.
pub use Rattle.columns.proofs.Theorems.{ToColumns, FromColumns}

abbrev pub to_columns_call : Call
to_columns_call = call to_columns_function to-columns-met.met (λ 𝓤 𝓛 mem run κs a. (tt, refl))

abbrev pub from_columns_call : Call
from_columns_call = call from_columns_function from-columns-met.met (λ 𝓤 𝓛 mem run κs a. (tt, refl))

-- For any bytes: each returns Ok, or is refused with WidthDoesNotDivide (20) or OutputTooShort (21).
refusal-one : (w n room : ℕ) → OneOf (20 ∷ 21 ∷ 0 ∷ []) (refusal_of w n room)
unfolding refusal_of
refusal-one w n room = go (width_ok w n) (leb n room)
  where
    go : (a b : Bool) → OneOf (20 ∷ 21 ∷ 0 ∷ []) (cond a (cond b 0 21) 20)
    go true true = inr (inr (inl refl))
    go true false = inr (inl refl)
    go false b = inl refl

abbrev pub ColumnsResult : Result (Unit {0}) Refusal → Type 0
ColumnsResult r = (r ≡ Err refused.WidthDoesNotDivide) ⊎ (r ≡ Err refused.OutputTooShort) ⊎ (r ≡ Ok tt)

columns-one : (r : Result (Unit {0}) Refusal) (n : ℕ) → result_refusal r ≡ n → OneOf (20 ∷ 21 ∷ 0 ∷ []) n → ColumnsResult r
columns-one r n is (inl e) = inl (refused-as r refused.WidthDoesNotDivide (is ∙ e))
columns-one r n is (inr (inl e)) = inr (inl (refused-as r refused.OutputTooShort (is ∙ e)))
columns-one r n is (inr (inr (inl e))) = inr (inr (answered-with r tt (is ∙ e) (λ y same. refl)))
columns-one r n is (inr (inr (inr z))) = absurd z

module _ (κs : Lfts 2) (text : Borrowed) (w : ℕ) (out after : BorrowedMut) (r : Result (Unit {0}) Refusal) where
  pub to-columns-numbers : ToColumns κs text w out after r → ColumnsResult r
  unfolding columns_refusal
  to-columns-numbers a = columns-one r _ a.0 (refusal-one w (length text.now) (length out.now))

  pub from-columns-numbers : FromColumns κs text w out after r → ColumnsResult r
  unfolding columns_refusal
  from-columns-numbers a = columns-one r _ a.0 (refusal-one w (length text.now) (length out.now))
