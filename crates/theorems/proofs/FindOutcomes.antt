-- The outcomes of find, with or without a guide, for any bytes given as a tree and as a guide.
use mathlib.Core.List.{List, [], ◌∷◌, ◌++◌}
use mathlib.Core.Bool.{◌&&◌}
use mathlib.Core.Path.{◌≡◌, ap}
use mathlib.Core.Logic.{◌⊎◌, inl, inr}
use Prim.Native.Nat.{ℕ, ◌≤◌, ◌<◌}
use native.Mathlib.Omega.{arith}
use lib.Dec.{leb}
use Rattle.text.specs.Text.{count_in}
use Rattle.text.specs.ListLaws.{lt-or-ge}
use Rattle.format.specs.Layout as at
use Rattle.format.specs.TreeReading.{text_of, header_result, check_result}
use Rattle.format.specs.CheckResultLaws.{accepted-header}
use Rattle.format.specs.Answers.{Answer, refused, is_counted, number_of_byte, find_refusal, found, total, FindBy}
use Rattle.format.specs.FindAnswerLaws.{select-lets, select-passes}
use Rattle.theory_counts.specs.Theorems as counts
use Rattle.theorems.specs.Promises.{CountedIn}
use Rattle.theorems.proofs.AcceptedTree.{among-counted}
use Rattle.theorems.proofs.RefusalNumbers.{OneOf, asks-one, not-zero, of_left, of_right, header-one, then_one}

-- The numbers that the questions before the walk can give.
select-one : (t : List ℕ) (byte j : ℕ) → OneOf (5 ∷ 6 ∷ 7 ∷ 11 ∷ 12 ∷ 0 ∷ []) (find_refusal t byte j)
unfolding find_refusal
select-one t byte j =
    then_one (5 ∷ 6 ∷ 7 ∷ []) (11 ∷ 12 ∷ 0 ∷ []) (header_result t) _ (header-one t)
    (asks-one ((11, is_counted t byte) ∷ (12, leb 1 j && leb j (total t (number_of_byte t byte))) ∷ []))

-- A refusal of the questions before the walk is also one of a longer list.
pub select-first : (t : List ℕ) (byte j n : ℕ) (xs : List ℕ) → 1 ≤ n → n ≡ find_refusal t byte j → OneOf ((5 ∷ 6 ∷ 7 ∷ 11 ∷ 12 ∷ []) ++ xs) n
select-first t byte j n xs low e =
    of_left (5 ∷ 6 ∷ 7 ∷ 11 ∷ 12 ∷ []) xs n (not-zero (5 ∷ 6 ∷ 7 ∷ 11 ∷ 12 ∷ []) n low (rw e (select-one t byte j)))

module _ (t : List ℕ) (byte j : ℕ) where
  -- Refused before the walk or in it, or a place of the text.
  pub data FindOutcome (s : Answer) : Type 0 where
    asked : 0 < find_refusal t byte j → s ≡ refused (find_refusal t byte j) → FindOutcome s
    broken : s ≡ refused 14 → FindOutcome s
    placed : s.number ≡ 0 → s.value < at.text_length t → FindOutcome s

  pub find-outcome : (ok : ℕ) → (ok ≡ 0 → check_result t ≡ 0) → (s : Answer) → FindBy t ok byte j s → FindOutcome s
  unfolding found
  find-outcome ok sound s a = go (lt-or-ge 0 (find_refusal t byte j)) (lt-or-ge 0 ok)
    where
      free-outcome : (s ≡ refused 14) ⊎ ((s.number ≡ 0) × (s.value < at.text_length t)) → FindOutcome s
      free-outcome (inl e) = broken e
      free-outcome (inr h) = placed h.0 h.1

      go : (0 < find_refusal t byte j) ⊎ (find_refusal t byte j ≤ 0) → (0 < ok) ⊎ (ok ≤ 0) → FindOutcome s
      go (inl low) w = asked low (a.asked low)
      go (inr z) (inl w) = free-outcome (a.free (omega arith) (λ v. omega arith))
      go (inr z) (inr w) =
          let v : ok ≡ 0 = omega arith in
          let e = a.accepted (omega arith) v in
          let below = counts.place-below t (sound v) byte j (select-passes t byte j (omega arith)) in
          placed (ap (λ (x : Answer). x.number) e) (rw (ap (λ (x : Answer). x.value) e) below)

  -- A returned place is a place of the text.
  pub outcome-below : (s : Answer) → s.number ≡ 0 → FindOutcome s → s.value < at.text_length t
  outcome-below s z (asked low is) = absurd (let y : s.number ≡ find_refusal t byte j = ap (λ (x : Answer). x.number) is in omega arith)
  outcome-below s z (broken is) = absurd (let y : s.number ≡ 14 = ap (λ (x : Answer). x.number) is in omega arith)
  outcome-below s z (placed y low) = low

  -- A refusal is 5, 6, 7, 11, 12 or 14.
  pub outcome-numbers : (n : ℕ) → 1 ≤ n → FindOutcome (refused n) → OneOf (5 ∷ 6 ∷ 7 ∷ 11 ∷ 12 ∷ 14 ∷ []) n
  outcome-numbers n l (asked low is) = select-first t byte j n (14 ∷ []) l (ap (λ (s : Answer). s.number) is)
  outcome-numbers n l (broken is) = of_right (5 ∷ 6 ∷ 7 ∷ 11 ∷ 12 ∷ []) (14 ∷ []) n (inl (ap (λ (s : Answer). s.number) is))
  outcome-numbers n l (placed z low) = absurd (let y : ⊥ = omega arith in y)

-- On an accepted tree questions 11 and 12 pass if there is a j-th occurrence.
pub select-through : (t : List ℕ) → check_result t ≡ 0 → (byte j : ℕ) → CountedIn byte (at.settings t).counted → 1 ≤ j → j ≤ count_in byte (text_of t)
    → find_refusal t byte j ≡ 0
select-through t v byte j k low high =
    let c = among-counted t byte k in
    select-lets t byte j (record { pass = accepted-header t v; counted = c; low = low; high = rw (counts.total-of-text t v byte c) high })
