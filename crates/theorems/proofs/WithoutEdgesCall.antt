-- without_edges(tree, out) writes the tree in layout 1. `Theorems` of its crate has the theorems on what it writes and refuses; here: every call returns the
-- same for the written tree.
use Rattle.std.specs.Prelude.{Result, Ok, Err}
use Rattle.refusals.specs.Refusals.{result_refusal}
use mathlib.Core.List.{List, [], ◌∷◌}
use mathlib.Core.Bool.{true, false, cond}
use mathlib.Core.Path.{◌≡◌, refl, ◌∙◌}
use mathlib.Core.Logic.{◌⊎◌, inl, inr}
use Prim.Native.Nat.{ℕ}
use contract.Lifetimes.{Lfts}
use lib.ListN.{length, take}
use lib.Dec.{leb, eqb}
use Rattle.text.specs.ListLaws.{bool_cases}
use Rattle.format.specs.Answers.{replied}
use Rattle.format.specs.Layout as at
use Rattle.format.specs.TreeReading.{text_of, ask, header_result, check_result}
use Rattle.theory_without_edges.specs.WithoutEdges.{without_edges}
use Rattle.build_without_edges.specs.WithoutEdgesAnswers.{without_edges_refusal, without_edges_reply}
use Rattle.theorems.specs.CallContracts.{Refusal}
use Rattle.theorems.specs.Promises.{Answers, Refuses}
use Rattle.theorems.specs.PublicFunctions.{without_edges_function}
use Rattle.theorems.proofs.PublicCall.{Call, Borrowed, BorrowedMut, call}
use Rattle.theorems.proofs.RefusalNumbers.{OneOf, header-one}
use Rattle.theorems.proofs.TreeAnswers.{accepted-answers, accepted-refuses}
use Rattle.build_without_edges.proofs.without_edges.Met as without-edges-met
use Rattle.build_without_edges.proofs.Theorems as drops
-- `WithoutEdges κs tree out after r`: the contract allows r, with the buffer left as `after`
pub use Rattle.build_without_edges.proofs.Theorems.{WithoutEdges}

abbrev pub without_edges_call : Call
without_edges_call = call without_edges_function without-edges-met.met (λ 𝓤 𝓛 mem run κs a. (tt, refl))

-- On any bytes it returns 0, 5, 6, 7 or 13.
number-one : (t out : List ℕ) → OneOf (5 ∷ 6 ∷ 7 ∷ 13 ∷ 0 ∷ []) (without_edges_refusal t out)
unfolding without_edges_refusal
number-one t out = go (header_result t) (header-one t) (bool_cases (leb (length (without_edges t)) (length out)))
  where
    fits : Type 0
    fits = (leb (length (without_edges t)) (length out) ≡ true) ⊎ (leb (length (without_edges t)) (length out) ≡ false)

    go : (n : ℕ) → OneOf (5 ∷ 6 ∷ 7 ∷ 0 ∷ []) n → fits
        → OneOf (5 ∷ 6 ∷ 7 ∷ 13 ∷ 0 ∷ []) (cond (eqb n 0) (ask 13 (leb (length (without_edges t)) (length out)) 0) n)
    go n (inl e) f = rw e (inl refl)
    go n (inr (inl e)) f = rw e (inr (inl refl))
    go n (inr (inr (inl e))) f = rw e (inr (inr (inl refl)))
    go n (inr (inr (inr (inl e)))) (inl f) = rw (e, f) (inr (inr (inr (inr (inl refl)))))
    go n (inr (inr (inr (inl e)))) (inr f) = rw (e, f) (inr (inr (inr (inl refl))))
    go n (inr (inr (inr (inr e)))) f = elim e [ ]

without-edges-refusal : (r : Result ℕ Refusal) → result_refusal r ≡ (replied (without_edges_reply r)).number
without-edges-refusal (Ok n) = refl
without-edges-refusal (Err q) = refl

module _ (κs : Lfts 2) (t : Borrowed) (out after : BorrowedMut) (r : Result ℕ Refusal) (a : WithoutEdges κs t out after r) where
  pub without-edges-numbers : OneOf (5 ∷ 6 ∷ 7 ∷ 13 ∷ 0 ∷ []) (result_refusal r)
  without-edges-numbers = rw (without-edges-refusal r ∙ a.0) (number-one t.now out.now)

  -- If the check accepts the tree, every question about the tree and about the written tree is answered, or refused, by the same text and settings.
  module _ (n : ℕ) (e : r ≡ Ok n) (u : Borrowed) (is : u.now ≡ take n after.now) (v : check_result t.now ≡ 0) where
    settings_are : at.settings u.now ≡ at.settings t.now
    settings_are = (drops.written-header κs t out after r a n e u is).2.settings_are

    pub without-edges-answers : Answers t (at.settings t.now) (text_of t.now) × Answers u (at.settings t.now) (text_of t.now)
    without-edges-answers = (
      accepted-answers t v,
      rw (settings_are, drops.written-text κs t out after r a n e u is) at (accepted-answers u (drops.written-accepted κs t out after r a n e u is v)),
    )

    pub without-edges-refuses : Refuses t (at.settings t.now) (text_of t.now) × Refuses u (at.settings t.now) (text_of t.now)
    without-edges-refuses = (
      accepted-refuses t v,
      rw (settings_are, drops.written-text κs t out after r a n e u is) at (accepted-refuses u (drops.written-accepted κs t out after r a n e u is v)),
    )
