-- find(tree, byte, j): the place of the j-th occurrence of a counted byte, with the number of blocks entered.
use Rattle.std.specs.Prelude.{Ok, Err}
use Rattle.refusals.specs.declared.Refusal.TheVariants.{ByteNotCounted, NoSuchOccurrence}
use Rattle.refusals.specs.Refusals.{refusal_number}
use Rattle.refusals.specs.RefusalsLaws.{number-above, one-number}
use mathlib.Core.List.{List, [], ◌∷◌}
use mathlib.Core.Bool.{true, false, ◌&&◌}
use mathlib.Core.Path.{◌≡◌, ap, refl}
use mathlib.Core.Logic.{◌⊎◌, inl, inr}
use Prim.Native.Nat.{ℕ, ◌≤◌, ◌<◌}
use native.Mathlib.Omega.{arith}
use contract.Lifetimes.{Lfts}
use lib.ListN.{length}
use lib.Dec.{leb}
use borrow.Author.Tests.{leb-true}
use Rattle.text.specs.Text.{count_in, place_of}
use Rattle.text.proofs.CountTheorems.{place-nth}
use Rattle.text.specs.ListLaws.{bool_cases, and_left, and_right}
use Rattle.text.specs.declared.TextPlace.{TextPlace}
use Rattle.format.specs.Layout.{Settings}
use Rattle.format.specs.Layout as at
use Rattle.format.specs.TreeReading.{path_of, text_of, check_result}
use Rattle.format.specs.CheckResultLaws.{accepted-header}
use Rattle.format.specs.Answers.{Answer, refused, NeverZero, replied, number_of_byte, find_refusal, path_length, total, found as found_for}
use Rattle.format.specs.FindAnswerLaws.{FindAnswers as FindAllowed}
use Rattle.theory_counts.specs.Theorems as counts
use Rattle.query_select.specs.Found.{find_reply}
use Rattle.theorems.specs.CallContracts.{FindAnswer, Refusal}
use Rattle.theorems.specs.Promises.{CountedIn, FindAnswers, FindRefuses}
pub use Rattle.theorems.specs.CallContracts.{Find}
use Rattle.theorems.specs.PublicFunctions.{find_function}
use Rattle.theorems.proofs.AcceptedTree.{among-counted, not-counted, path-length}
use Rattle.theorems.proofs.FindOutcomes.{FindOutcome, find-outcome, outcome-below, outcome-numbers, select-through}
use Rattle.theorems.proofs.PublicCall.{Call, Borrowed, call}
use Rattle.theorems.proofs.RefusalNumbers.{OneOf}
use Rattle.query_select.proofs.find.Met as find-met

abbrev pub find_call : Call
find_call = call find_function find-met.met (λ 𝓤 𝓛 mem run κs a. (tt, refl))

-- For any bytes.
module _ (κs : Lfts 1) (t : Borrowed) (byte j : ℕ) where
  outcome-of : (s : Answer) → FindAllowed t.now byte j s → FindOutcome t.now byte j s
  outcome-of s f = find-outcome t.now byte j (check_result t.now) (λ v. v) s f

  -- A returned place is a place of the text.
  pub find-answer : (p : TextPlace) (e : ℕ) → Find κs t byte j (Ok (p, e)) → p.0 < at.text_length t.now
  find-answer p e a = outcome-below t.now byte j (record { number = 0; value = p.0; entered = e }) refl (outcome-of _ a.answers)

  -- A refusal is 5, 6, 7, 11, 12 or 14.
  pub find-numbers : (q : Refusal) → Find κs t byte j (Err q) → OneOf (5 ∷ 6 ∷ 7 ∷ 11 ∷ 12 ∷ 14 ∷ []) (refusal_number q)
  find-numbers q a = outcome-numbers t.now byte j (refusal_number q) a.numbered (outcome-of _ a.answers)

-- The answer in each case.
find-no : (r : FindAnswer) (q : Refusal) → replied (find_reply r) ≡ refused (refusal_number q) → r ≡ Err q
find-no (Ok x) q s = absurd (let low = number-above q in let z : 0 ≡ refusal_number q = ap (λ (x : Answer). x.number) s in omega arith)
find-no (Err d) q s = ap Err (one-number d q (ap (λ (x : Answer). x.number) s))

find-is : (r : FindAnswer) (v e : ℕ) → NeverZero (find_reply r) → replied (find_reply r) ≡ record { number = 0; value = v; entered = e }
    → r ≡ Ok (record { 0 = v }, e)
find-is (Ok x) v e k s =
    let z : x.0 ≡ record { 0 = v } = ap (λ (n : ℕ). record { 0 = n }) (ap (λ (x : Answer). x.value) s) in
    let y : x.1 ≡ e = ap (λ (x : Answer). x.entered) s in
    ap Ok (λ i. (z i, y i))
find-is (Err q) v e k s = absurd (let z : refusal_number q ≡ 0 = ap (λ (x : Answer). x.number) s in omega arith)

-- Any tree that the check accepts, and the one text that fits it.
module _ (t : Borrowed) (v : check_result t.now ≡ 0) where
  abbrev S : Settings
  S = at.settings t.now

  abbrev T : List ℕ
  T = text_of t.now

  pub accepted-answers : FindAnswers t S T
  unfolding found_for
  accepted-answers = record {
    find_of = λ κs byte j r a k low high.
        let p = place_of byte j T in
        let in_text : p < length T = omega (arith, (place-nth byte j T low high).within) in
        let is = find-is r p _ a.numbered (a.answers.accepted (select-through t.now v byte j k low high) v) in
        (path_length t.now (path_of t.now p), path-length t.now v p in_text, is);
  }

  -- Questions 11 and 12.
  eleven : (byte j : ℕ) → (CountedIn byte S.counted → ⊥) → find_refusal t.now byte j ≡ 11
  unfolding find_refusal
  eleven byte j other = rw (accepted-header t.now v, not-counted t.now v byte other)

  twelve : (byte j : ℕ) → CountedIn byte S.counted → (1 ≤ j → j ≤ count_in byte T → ⊥) → find_refusal t.now byte j ≡ 12
  unfolding find_refusal
  twelve byte j k none =
      let c = among-counted t.now byte k in
      let all = total t.now (number_of_byte t.now byte) in
      rw (accepted-header t.now v, c, go all (counts.total-of-text t.now v byte c) (bool_cases (leb 1 j && leb j all)))
    where
      go : (all : ℕ) → all ≡ count_in byte T → ((leb 1 j && leb j all) ≡ true) ⊎ ((leb 1 j && leb j all) ≡ false) → (leb 1 j && leb j all) ≡ false
      go all e (inl h) = absurd (none (leb-true 1 j (and_left (leb 1 j) (leb j all) h)) (rw e at (leb-true j all (and_right (leb 1 j) (leb j all) h))))
      go all e (inr h) = h

  -- Refused before the walk.
  find-asked : (κs : Lfts 1) (byte j : ℕ) (r : FindAnswer) (q : Refusal) → Find κs t byte j r → find_refusal t.now byte j ≡ refusal_number q → r ≡ Err q
  find-asked κs byte j r q a e = find-no r q (rw e at (a.answers.asked (rw e (omega (arith, number-above q)))))

  pub accepted-refuses : FindRefuses t S T
  accepted-refuses = record {
    find_other = λ κs byte j r a other. find-asked κs byte j r ByteNotCounted a (eleven byte j other);
    find_none = λ κs byte j r a k none. find-asked κs byte j r NoSuchOccurrence a (twelve byte j k none);
  }
