-- The statements of docs/FORMAT.md, "Guides", about a guide, as theorems over the contracts of the calls, for any bytes.
use mathlib.Core.List.{List}
use mathlib.Core.Path.{◌≡◌, refl, sym, ap, ◌∙◌}
use Prim.Native.Nat.{ℕ, suc, ◌+◌, ◌*◌, ◌/◌, ◌<◌}
use native.Mathlib.Omega.{arith}
use contract.Lifetimes.{Lfts}
use denote.Ref.{Bor}
use Rattle.text.specs.Text.{count_in, place_of}
use Rattle.format.specs.Layout.{word_at, pieces}
use Rattle.format.specs.Layout as at
use Rattle.format.specs.TreeReading.{text_of, header_result, check_result}
use Rattle.format.specs.Answers.{Answer, refused, NeverZero, replied}
use Rattle.format.specs.LayoutLaws.{header-facts}
use Rattle.format.specs.CheckResultLaws.{accepted-header, accepted-links}
use Rattle.theory_paths.specs.Links.{linked-facts}
use Rattle.theory_counts.specs.Finds as finds
use Rattle.theory_counts.specs.CountsLocal.{byte_of}
use Rattle.theory_counts.specs.Theorems as counts
use Rattle.std.specs.Prelude.{Result, Ok, Err}
use Rattle.refusals.specs.declared.Refusal.{Refusal}
use Rattle.refusals.specs.Refusals.{result_refusal}
use Rattle.query_guide.specs.Guides.{listed_every, block_of, entries_of, entries_before, guide_words, guide_bytes, guide_words_reply}
use Rattle.query_guide.proofs.GuideList.{guide-entry, entry-below, entry-word, guide-size-is, size-unread}
use Rattle.query_guide.proofs.guide_words.Reads as words-reads

-- r is an answer that the contract of the call allows with this argument
abbrev pub GuideWords : (κs : Lfts 1) → Bor (List ℕ) → Result ℕ Refusal → Type 0
GuideWords κs t r = words-reads.Post κs (t, tt) r (t, tt)

-- The answer in each case.
pub words-is : (r : Result ℕ Refusal) (n : ℕ) → NeverZero (guide_words_reply r) → replied (guide_words_reply r) ≡ record { number = 0; value = n; entered = 0 }
    → r ≡ Ok n
words-is (Ok m) n k e = ap Ok (ap (λ (s : Answer). s.value) e)
words-is (Err q) n k e = absurd (let z : ⊥ = omega (arith, ap (λ (s : Answer). s.number) e) in z)

pub guide-refused-is : (r : Result ℕ Refusal) (q : ℕ) → replied (guide_words_reply r) ≡ refused q → result_refusal r ≡ q
guide-refused-is (Ok m) q e = ap (λ (s : Answer). s.number) e
guide-refused-is (Err d) q e = ap (λ (s : Answer). s.number) e

-- Request 113, the guide of an accepted tree: for each counted byte it has total / 64 words, rounded up; word i is the block of level 0 that contains
-- occurrence 64 i + 1.
module _ (t : List ℕ) (v : check_result t ≡ 0) (c : ℕ) (hc : c < at.counted_count t) where
  pub guide-entries : entries_of t c ≡ pieces (count_in (byte_of t c) (text_of t)) listed_every
  unfolding entries_of
  guide-entries = ap (λ (n : ℕ). pieces n listed_every)
      (finds.total_is t (header-facts t (accepted-header t v)) (linked-facts t (accepted-links t v)) (counts.levels t v) c hc)

  pub guide-holds : (e : ℕ) → e < entries_of t c
      → word_at (guide_bytes t) (4 * (entries_before t c + e)) ≡ place_of (byte_of t c) (listed_every * e + 1) (text_of t) / at.full_length t 0
  unfolding block_of byte_of
  guide-holds e he = entry-word t v (entries_before t c + e) (entry-below t c e hc he) ∙ guide-entry t c e hc he

-- The size is the words that a guide of this tree has: the number that making gives, and four bytes for each are enough.
module _ (κs : Lfts 1) (t : Bor (List ℕ)) (r : Result ℕ Refusal) (a : GuideWords κs t r) where
  pub size-of-guide : header_result t.now ≡ 0 → r ≡ Ok (guide_words t.now)
  size-of-guide e = words-is r (guide_words t.now) a.1 (a.0 ∙ sym (guide-size-is t.now (guide_words t.now) e refl))

  pub size-refused : (k : ℕ) → header_result t.now ≡ suc k → result_refusal r ≡ suc k
  size-refused k e = guide-refused-is r (suc k) (a.0 ∙ sym (size-unread t.now k (suc k) e refl))
