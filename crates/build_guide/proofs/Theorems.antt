-- The sentences of docs/FORMAT.md, "Guides", about making and checking a guide, as theorems over the contracts of the calls, for any bytes.
use mathlib.Core.List.{List, ◌++◌}
use mathlib.Core.Bool.{true, false}
use mathlib.Core.Path.{◌≡◌, refl, sym, ap, ◌∙◌}
use mathlib.Core.Logic.{◌⊎◌, inl, inr, ◌↔◌}
use Prim.Native.Nat.{ℕ, ◌*◌, ◌≤◌, ◌<◌}
use native.Mathlib.Omega.{arith}
use contract.Lifetimes.{Lfts}
use denote.Ref.{Bor, MutBor}
use lib.ListN.{length, take, drop}
use lib.Seq.{take_at}
use Rattle.text.specs.ListLaws.{lt-or-ge, eq-same_list, ne-same_list}
use Rattle.format.specs.TreeReading.{check_result}
use Rattle.format.specs.Answers.{replied}
use Rattle.std.specs.Prelude.{Result, Ok, Err, ⊤}
use Rattle.refusals.specs.declared.Refusal.{Refusal}
use Rattle.refusals.specs.declared.Refusal.TheVariants.{GuideWrong, GuideTableTooShort}
use Rattle.refusals.specs.Refusals.{result_refusal}
use Rattle.refusals.specs.RefusalsLaws.{refused-as, answered-with}
use Rattle.query_guide.specs.Guides.{guide_words, guide_bytes, guide_words_reply}
use Rattle.query_guide.proofs.GuideList.{guide-size, guide-checked, guide-same}
use Rattle.query_guide.proofs.Theorems.{words-is, guide-refused-is}
use Rattle.build_guide.proofs.GuideWrittenLaws as laws
use Rattle.build_guide.proofs.make_guide.Reads as make-reads
use Rattle.build_guide.proofs.check_guide.Reads as check-reads

-- r is an answer that the contract of the call allows with these arguments; making leaves the table as `after`
abbrev pub MakeGuide : (κs : Lfts 2) → (t : Bor (List ℕ)) (table after : MutBor (List ℕ)) → Result ℕ Refusal → Type 0
MakeGuide κs t table after r = make-reads.Post κs (t, (table, tt)) r (t, (after, tt))

abbrev pub CheckGuide : (κs : Lfts 2) → (t guide : Bor (List ℕ)) → Result ⊤ Refusal → Type 0
CheckGuide κs t guide r = check-reads.Post κs (t, (guide, tt)) r (t, (guide, tt))

-- Making: refused with 5 to 9 if the check refuses the tree.
module _ (κs : Lfts 2) (t : Bor (List ℕ)) (table after : MutBor (List ℕ)) (r : Result ℕ Refusal) (a : MakeGuide κs t table after r) where
  pub make-unread : (check_result t.now ≡ 0 → ⊥) → (result_refusal r ≡ check_result t.now) × (after.now ≡ table.now)
  make-unread n =
      let u = laws.unmade t.now table.now (check_result t.now) refl n in
      (guide-refused-is r (check_result t.now) (a.0.0 ∙ sym u.0), a.1 ∙ sym u.1)

  module _ (v : check_result t.now ≡ 0) where
    -- Refused with 25 after it: a table that is too short, which stays unchanged.
    pub make-short : length table.now < 4 * guide_words t.now → (r ≡ Err GuideTableTooShort) × (after.now ≡ table.now)
    make-short l =
        let u = laws.made-short t.now table.now v l in
        (refused-as r GuideTableTooShort (guide-refused-is r 25 (a.0.0 ∙ sym u.0)), a.1 ∙ sym u.1)

    -- Else the table gets the words, and its bytes after them are unchanged.
    pub make-writes : 4 * guide_words t.now ≤ length table.now
        → (r ≡ Ok (guide_words t.now)) × (after.now ≡ guide_bytes t.now ++ drop (4 * guide_words t.now) table.now)
    make-writes l =
        let u = laws.made_all t.now table.now v l in
        (words-is r (guide_words t.now) a.0.1 (a.0.0 ∙ sym u.0), a.1 ∙ laws.made-leaves t.now table.now v l)

-- Checking accepts the guide of an accepted tree and nothing else. On an accepted tree every other sequence of bytes is refused with 24.
module _ (κs : Lfts 2) (t guide : Bor (List ℕ)) (r : Result ⊤ Refusal) (a : CheckGuide κs t guide r) where
  pub check-guide-accepts : (r ≡ Ok tt) ↔ ((check_result t.now ≡ 0) × (guide.now ≡ guide_bytes t.now))
  check-guide-accepts = (
    (λ e. (let z = sym a ∙ ap result_refusal e in (guide-checked t.now guide.now z, guide-same t.now guide.now z))),
    (λ h. answered-with r tt (a ∙ sym (laws.compared t.now guide.now h.0 true (sym (eq-same_list guide.now (guide_bytes t.now) h.1)))) (λ y _. refl)),
  )

  pub check-guide-unread : (check_result t.now ≡ 0 → ⊥) → result_refusal r ≡ check_result t.now
  check-guide-unread n = a ∙ sym (laws.unchecked t.now guide.now (check_result t.now) refl n)

  pub check-guide-wrong : check_result t.now ≡ 0 → (guide.now ≡ guide_bytes t.now → ⊥) → r ≡ Err GuideWrong
  check-guide-wrong v n =
      refused-as r GuideWrong (a ∙ sym (laws.compared t.now guide.now v false (sym (ne-same_list guide.now (guide_bytes t.now) n))))

-- What making writes, checking accepts.
pub made-accepted : (κs κ : Lfts 2) (t : Bor (List ℕ)) (table after : MutBor (List ℕ)) (guide : Bor (List ℕ)) (n : ℕ) (r : Result ⊤ Refusal)
    → MakeGuide κs t table after (Ok n) → guide.now ≡ take (4 * n) after.now → CheckGuide κ t guide r → r ≡ Ok tt
made-accepted κs κ t table after guide n r a is c = go (lt-or-ge 0 (check_result t.now)) (lt-or-ge (length table.now) (4 * guide_words t.now))
  where
    go : (0 < check_result t.now) ⊎ (check_result t.now ≤ 0) → (length table.now < 4 * guide_words t.now) ⊎
        (4 * guide_words t.now ≤ length table.now) → r ≡ Ok tt
    go (inl l) x = absurd (let z : 0 ≡ check_result t.now = (make-unread κs t table after (Ok n) a (λ z. omega arith)).0 in let y : ⊥ = omega arith in y)
    go (inr l) (inl s) = absurd
        (let z : ◌≡◌ {A = ℕ} 0 25 = ap result_refusal (make-short κs t table after (Ok n) a (omega arith) s).0 in let y : ⊥ = omega arith in y)
    go (inr l) (inr s) =
        let v : check_result t.now ≡ 0 = omega arith in
        let w = make-writes κs t table after (Ok n) a v s in
        let size : length (guide_bytes t.now) ≡ 4 * n = guide-size t.now
        ∙ ap (λ (x : Result ℕ Refusal). 4 * (replied (guide_words_reply x)).value) (sym w.0) in
        let same : guide.now ≡ guide_bytes t.now =
        is ∙ ap (take (4 * n)) w.1 ∙ take_at (guide_bytes t.now) (drop (4 * guide_words t.now) table.now) (4 * n) size in
        (check-guide-accepts κ t guide r c).1 (v, same)
