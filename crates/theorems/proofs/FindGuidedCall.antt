-- find_guided(tree, guide, byte, j): find from an entry of a guide on; it also returns its steps on level 0. `Theorems` of its crate has the other theorems.
use Rattle.std.specs.Prelude.{Result, Ok, Err}
use Rattle.refusals.specs.Refusals.{refusal_number}
use mathlib.Core.List.{[], ◌∷◌}
use mathlib.Core.Path.{◌≡◌, sym, ap, refl}
use Prim.Native.Nat.{ℕ, ◌≤◌, ◌<◌}
use native.Mathlib.Omega.{arith}
use contract.Lifetimes.{Lfts}
use lib.ListN.{length}
use Rattle.text.specs.Text.{count_in, place_of}
use Rattle.text.proofs.CountTheorems.{place-nth}
use Rattle.text.specs.declared.TextPlace.{TextPlace}
use Rattle.format.specs.Layout as at
use Rattle.format.specs.TreeReading.{path_of, text_of, check_result}
use Rattle.format.specs.Answers.{Answer, NeverZero, replied, number_of_byte, found, path_length}
use Rattle.query_guide.specs.Guides.{guide_refusal}
use Rattle.query_guide.proofs.GuideList.{guide-checked}
use Rattle.query_guided.specs.Guided.{steps_to, find_guided_reply, steps_of}
use Rattle.theorems.specs.CallContracts.{Refusal}
use Rattle.theorems.specs.Promises.{CountedIn, LengthOfPath}
use Rattle.theorems.specs.PublicFunctions.{find_guided_function}
use Rattle.theorems.proofs.AcceptedTree.{path-length}
use Rattle.theorems.proofs.FindOutcomes.{FindOutcome, find-outcome, outcome-below, outcome-numbers, select-through}
use Rattle.theorems.proofs.GuideCall.{CheckGuide}
use Rattle.theorems.proofs.PublicCall.{Call, Borrowed, call}
use Rattle.theorems.proofs.RefusalNumbers.{OneOf}
use Rattle.query_guided.proofs.find_guided.Met as find-guided-met
-- What the contract allows: `FindGuided κs tree guide byte j r`.
pub use Rattle.query_guided.proofs.Theorems.{FindGuided}

abbrev pub find_guided_call : Call
find_guided_call = call find_guided_function find-guided-met.met (λ 𝓤 𝓛 mem run κs a. (tt, refl))

-- For any bytes: a place is one of the text, whatever the guide, and a refusal is 5, 6, 7, 11, 12 or 14.
module _ (κs : Lfts 2) (t guide : Borrowed) (byte j : ℕ) where
  outcome-of : (r : Result (TextPlace × ℕ × ℕ) Refusal) → FindGuided κs t guide byte j r → FindOutcome t.now byte j (replied (find_guided_reply r))
  outcome-of r a = find-outcome t.now byte j (guide_refusal t.now guide.now) (guide-checked t.now guide.now) (replied (find_guided_reply r))
      a.answers.finds

  pub guided-below : (p : TextPlace) (e steps : ℕ) → FindGuided κs t guide byte j (Ok (p, e, steps)) → p.0 < at.text_length t.now
  guided-below p e steps a = outcome-below t.now byte j (record { number = 0; value = p.0; entered = e }) refl (outcome-of (Ok (p, e, steps)) a)

  pub guided-numbers : (q : Refusal) → FindGuided κs t guide byte j (Err q) → OneOf (5 ∷ 6 ∷ 7 ∷ 11 ∷ 12 ∷ 14 ∷ []) (refusal_number q)
  guided-numbers q a = outcome-numbers t.now byte j (refusal_number q) a.numbered (outcome-of (Err q) a)

-- If check_guide accepts the tree and the guide, find with the guide returns what the tree's text has, with the length of the place's path and the steps
-- from entry (j - 1) / 64.
module _ (κ : Lfts 2) (t guide : Borrowed) (ok : CheckGuide κ t guide (Ok tt)) where
  settled : guide_refusal t.now guide.now ≡ 0
  settled = sym ok

  v : check_result t.now ≡ 0
  v = guide-checked t.now guide.now settled

  pub guided-of-text : (κs : Lfts 2) (byte j : ℕ) (r : Result (TextPlace × ℕ × ℕ) Refusal) → FindGuided κs t guide byte j r
      → CountedIn byte (at.settings t.now).counted → 1 ≤ j → j ≤ count_in byte (text_of t.now)
      → (e : ℕ) × LengthOfPath t.now (at.settings t.now).levels (place_of byte j (text_of t.now)) e
      × (r ≡ Ok (record { 0 = place_of byte j (text_of t.now) }, e, steps_to t.now (number_of_byte t.now byte) j))
  unfolding found
  guided-of-text κs byte j r a k low high =
      let n = select-through t.now v byte j k low high in
      let p = place_of byte j (text_of t.now) in
      let in_text : p < length (text_of t.now) = omega (arith, (place-nth byte j (text_of t.now) low high).within) in
      let long = path-length t.now v p in_text in
      (path_length t.now (path_of t.now p), long, guided-is r p _ _ a.numbered (a.answers.finds.accepted n settled) (a.answers.counted n settled))
    where
      guided-is : (r : Result (TextPlace × ℕ × ℕ) Refusal) (p e steps : ℕ) → NeverZero (find_guided_reply r) → replied (find_guided_reply r)
          ≡ record { number = 0; value = p; entered = e }
          → steps_of r ≡ steps
          → r ≡ Ok (record { 0 = p }, e, steps)
      guided-is (Ok g) p e steps k x y =
          let z : g.0 ≡ record { 0 = p } = ap (λ (n : ℕ). record { 0 = n }) (ap (λ (s : Answer). s.value) x) in
          let w : g.1 ≡ e = ap (λ (s : Answer). s.entered) x in
          ap Ok (λ i. (z i, w i, y i))
      guided-is (Err q) p e steps k x y = absurd (let z : refusal_number q ≡ 0 = ap (λ (s : Answer). s.number) x in omega arith)
