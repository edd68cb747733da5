-- The statements of docs/FORMAT.md, "Guides", about find with a guide, as theorems over the contract of the call.
use mathlib.Core.List.{List}
use mathlib.Core.Path.{◌≡◌, sym, ap, ◌∙◌}
use mathlib.Core.Logic.{◌⊎◌, inl, inr}
use Prim.Native.Nat.{ℕ, ◌-◌, ◌≤◌, ◌<◌}
use native.Mathlib.Omega.{arith}
use contract.Lifetimes.{Lfts}
use denote.Ref.{Bor}
use Rattle.text.specs.ListLaws.{lt-or-ge}
use Rattle.format.specs.Layout as at
use Rattle.format.specs.TreeReading.{check_result}
use Rattle.format.specs.Answers.{Answer, refused, replied, number_of_byte, find_refusal}
use Rattle.std.specs.Prelude.{Result, Ok, Err}
use Rattle.text.specs.declared.TextPlace.{TextPlace}
use Rattle.refusals.specs.declared.Refusal.{Refusal}
use Rattle.refusals.specs.declared.Refusal.TheVariants.{PathBroken}
use Rattle.refusals.specs.Refusals.{result_refusal}
use Rattle.refusals.specs.RefusalsLaws.{number-above, one-number}
use Rattle.query_select.specs.Found.{find_reply, IsFindAnswer}
use Rattle.query_select.proofs.FoundLaws.{by-find}
use Rattle.query_select.proofs.find.Reads as find-reads
use Rattle.query_guide.specs.Guides.{last_listed, block_of, guide_refusal}
use Rattle.query_guide.proofs.GuideList.{guide-checked}
use Rattle.query_guided.specs.Guided.{steps_to, find_guided_reply, steps_of}
use Rattle.query_guided.specs.GuidedWalk.{found_of}
use Rattle.query_guided.proofs.GuidedFindLaws.{found-by}
use Rattle.query_guided.proofs.find_guided.Reads as guided-reads

-- r is an answer that the contract of the call allows with these arguments
abbrev pub FindGuided : (κs : Lfts 2) → (t guide : Bor (List ℕ)) → (byte j : ℕ) → Result (TextPlace × ℕ × ℕ) Refusal → Type 0
FindGuided κs t guide byte j r = guided-reads.Post κs (t, (guide, (byte, (j, tt)))) r (t, (guide, (byte, (j, tt))))

abbrev Find : (κs : Lfts 1) → Bor (List ℕ) → (byte j : ℕ) → Result (TextPlace × ℕ) Refusal → Type 0
Find κs t byte j r = find-reads.Post κs (t, (byte, (j, tt))) r (t, (byte, (j, tt)))

-- Two answers that say the same are the same.
same-found : (x y : Result (TextPlace × ℕ) Refusal) → replied (find_reply x) ≡ replied (find_reply y) → x ≡ y
same-found (Ok x) (Ok y) s =
    let p : x.0 ≡ y.0 = ap (λ (n : ℕ). record { 0 = n }) (ap (λ (x : Answer). x.value) s) in
    let e : x.1 ≡ y.1 = ap (λ (x : Answer). x.entered) s in
    λ i. Ok (p i, e i)
same-found (Ok x) (Err n) s = absurd (let z : ⊥ = omega (arith, ap (λ (x : Answer). x.number) s, number-above n) in z)
same-found (Err n) (Ok x) s = absurd (let z : ⊥ = omega (arith, ap (λ (x : Answer). x.number) s, number-above n) in z)
same-found (Err n) (Err m) s = ap Err (one-number n m (ap (λ (x : Answer). x.number) s))

-- On an accepted tree find has one answer.
one_answer : (t : List ℕ) → check_result t ≡ 0 → (byte j : ℕ) (x y : Result (TextPlace × ℕ) Refusal) → IsFindAnswer t byte j x → IsFindAnswer t byte j y → x ≡ y
one_answer t v byte j x y a b = same-found x y (go (lt-or-ge 0 (find_refusal t byte j)))
  where
    go : (0 < find_refusal t byte j) ⊎ (find_refusal t byte j ≤ 0) → replied (find_reply x) ≡ replied (find_reply y)
    go (inl l) = a.answers.asked l ∙ sym (b.answers.asked l)
    go (inr l) = let z : find_refusal t byte j ≡ 0 = omega arith in a.answers.accepted z v ∙ sym (b.answers.accepted z v)

-- Request 113: find with a guide. If the tree and the guide are accepted (check_guide returns `guide_refusal`), place and blocks entered are those of find.
module _ (κs : Lfts 2) (t guide : Bor (List ℕ)) (byte j : ℕ) (r : Result (TextPlace × ℕ × ℕ) Refusal) (a : FindGuided κs t guide byte j r) where
  module _ (accepted : guide_refusal t.now guide.now ≡ 0) where
    as-find : IsFindAnswer t.now byte j (found_of r)
    as-find =
        let f = found-by t.now guide.now byte j r a in
        record {
          answers = by-find t.now byte
              j (replied (find_reply (found_of r))) (guide_refusal t.now guide.now) (guide-checked t.now guide.now) accepted f.answers;
          numbered = f.numbered;
        }

    pub guided-as-find : (κ : Lfts 1) (f : Result (TextPlace × ℕ) Refusal) → Find κ t byte j f → found_of r ≡ f
    guided-as-find κ f b = one_answer t.now (guide-checked t.now guide.now accepted) byte j (found_of r) f as-find b

    -- The steps on level 0, counted while find runs, are the number of the block of level 0 that contains the place, minus the entry.
    pub guided-steps : find_refusal t.now byte j ≡ 0
        → steps_of r ≡ block_of t.now (number_of_byte t.now byte) j - block_of t.now (number_of_byte t.now byte) (last_listed j)
    unfolding steps_to
    guided-steps n = a.answers.counted n accepted

  -- Any other guide leads at worst to 14 or to a place below n. The questions before the walk are those of find, whatever the guide.
  pub guided-asked : 0 < find_refusal t.now byte j → result_refusal r ≡ find_refusal t.now byte j
  guided-asked l = go r (a.answers.finds.asked l)
    where
      go : (r : Result (TextPlace × ℕ × ℕ) Refusal) → replied (find_guided_reply r) ≡ refused (find_refusal t.now byte j)
          → result_refusal r ≡ find_refusal t.now byte j
      go (Ok y) x = ap (λ (y : Answer). y.number) x
      go (Err e) x = ap (λ (y : Answer). y.number) x

  pub guided-worst : find_refusal t.now byte j ≡ 0
      → (guide_refusal t.now guide.now ≡ 0 → ⊥) → (r ≡ Err PathBroken)
      ⊎ (((replied (find_guided_reply r)).number ≡ 0) × ((replied (find_guided_reply r)).value < at.text_length t.now))
  guided-worst n g = go r (a.answers.finds.free n g)
    where
      go : (r : Result (TextPlace × ℕ × ℕ) Refusal) → (replied (find_guided_reply r) ≡ refused 14)
          ⊎ (((replied (find_guided_reply r)).number ≡ 0) × ((replied (find_guided_reply r)).value < at.text_length t.now))
          → (r ≡ Err PathBroken) ⊎ (((replied (find_guided_reply r)).number ≡ 0) × ((replied (find_guided_reply r)).value < at.text_length t.now))
      go (Ok y) (inl x) = absurd (let z : ◌≡◌ {A = ℕ} 0 14 = ap (λ (y : Answer). y.number) x in let w : ⊥ = omega arith in w)
      go (Err m) (inl x) = inl (ap Err (one-number m PathBroken (ap (λ (y : Answer). y.number) x)))
      go s (inr x) = inr x
