-- check(tree): 0 for a tree that represents exactly one text and whose counts and edges are right for it. Demand 3, except for its last part, on what the
-- builders write, which is in `BuildCall` and `BuildScannedCall`.
use Rattle.std.specs.Prelude.{⊤, Result, Ok}
use Rattle.refusals.specs.Refusals.{result_refusal}
use mathlib.Core.List.{List, [], ◌∷◌}
use mathlib.Core.Bool.{true}
use mathlib.Core.Path.{◌≡◌, sym, refl}
use Prim.Native.Nat.{ℕ}
use contract.Lifetimes.{Lfts}
use Rattle.format.specs.Layout as at
use Rattle.format.specs.TreeReading.{text_of, edges_true}
use Rattle.format.specs.FittingText.{fits}
use Rattle.format.specs.CheckResultLaws.{accepted-header, accepted-links, no_edges}
use Rattle.theory_accepted.specs.AcceptedTrees.{Represents, one-text}
use Rattle.tree.proofs.Theorems as tree
use Rattle.theorems.specs.CallContracts.{Refusal}
use Rattle.theorems.specs.Promises.{Answers, ExactCheck, Refuses}
use Rattle.theorems.specs.PublicFunctions.{check_function}
use Rattle.theorems.proofs.PublicCall.{Call, Borrowed, call}
use Rattle.theorems.proofs.RefusalNumbers.{OneOf, checked-one}
use Rattle.tree.proofs.check.Met as check-met
use Rattle.theorems.proofs.TreeAnswers.{accepted-answers, accepted-refuses}
-- What the contract allows: `Check κs tree r`.
pub use Rattle.theorems.specs.CallContracts.{Check}

abbrev pub check_call : Call
check_call = call check_function check-met.met (λ 𝓤 𝓛 mem run κs a. (tt, refl))

-- Check returns 0, or 5 to 9.
pub check-numbers : (κs : Lfts 1) (t : Borrowed) (r : Result ⊤ Refusal) → Check κs t r → OneOf (5 ∷ 6 ∷ 7 ∷ 8 ∷ 9 ∷ 0 ∷ []) (result_refusal r)
check-numbers κs t r a = rw a (checked-one t.now)

-- The check returns 0 if and only if questions 5 to 8 pass and some text fits whose counts, and in layout 2 edges, are those of the tree.
pub check-accepts : ExactCheck
check-accepts = tree.check-accepts

-- A call of check, on any bytes, whoever made them.
module _ (κs : Lfts 1) (t : Borrowed) where
  -- In layout 1 there are no edges, and the condition on edges holds of every text.
  pub layout1-no-edges : at.layout t.now ≡ 1 → (T : List ℕ) → edges_true T t.now ≡ true
  layout1-no-edges one T = no_edges T t.now one

  module _ (c : Check κs t (Ok tt)) where
    -- A text that fits is the one that the paths give.
    text-is : (T : List ℕ) → fits T t.now ≡ true → T ≡ text_of t.now
    text-is = one-text t.now (accepted-header t.now (sym c)) (accepted-links t.now (sym c))

    -- The tree represents one text, and no other text fits.
    pub check-one-text : (T : List ℕ) × Represents t.now T × ((U : List ℕ) → fits U t.now ≡ true → U ≡ T)
    check-one-text = tree.check-one-text κs t (Ok tt) c refl

    -- If questions 10 to 12 pass, byte, count and find are not refused, return what the text T has, and return the path's length, at most 2H - 1, as blocks
    -- entered. The other calls on a tree return what T has too. T is the text that fits.
    pub check-answers : (T : List ℕ) → fits T t.now ≡ true → Answers t (at.settings t.now) T
    check-answers T f = rw (text-is T f) (accepted-answers t (sym c))

    -- Where questions 10 to 13 do not let one through, their number is answered.
    pub check-refuses : (T : List ℕ) → fits T t.now ≡ true → Refuses t (at.settings t.now) T
    check-refuses T f = rw (text-is T f) (accepted-refuses t (sym c))
