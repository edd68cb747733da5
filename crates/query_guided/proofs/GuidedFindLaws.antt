-- Find with a guide.
use mathlib.Core.List.{List}
use mathlib.Core.Path.{◌≡◌, refl, ap, ◌∙◌, subst}
use mathlib.Core.Logic.{◌⊎◌, inl, inr}
use Prim.Native.Nat.{ℕ, ◌+◌, ◌*◌, ◌/◌, ◌≤◌, ◌<◌}
use native.Mathlib.Omega.{arith}
use lib.ListN.{length, get_or}
use Rattle.format.specs.Layout.{word_at}
use Rattle.format.specs.Layout as at
use Rattle.format.specs.TreeReading.{check_result}
use Rattle.format.specs.Answers.{Answer, refused, NeverZero, replied, number_of_byte, total, find_refusal, found}
use Rattle.std.specs.Prelude.{Result, Ok, Err}
use Rattle.text.specs.declared.TextPlace.{TextPlace}
use Rattle.refusals.specs.declared.Refusal.{Refusal}
use Rattle.refusals.specs.Refusals.{refusal_number}
use Rattle.refusals.specs.RefusalsLaws.{number-above}
use Rattle.query_select.specs.Found as select
use Rattle.query_select.specs.SoughtPlaces as sought
use Rattle.query_select.specs.Seeks.{LastBefore}
use Rattle.query_select.proofs.SeekLaws.{last-here}
use Rattle.query_guide.specs.Guides.{last_entry, last_listed, block_of, entries_of, entries_before, guide_of, guide_refusal}
use Rattle.query_guide.proofs.Holders.{block_in, block-low, block_is}
use Rattle.query_guide.proofs.GuideList.{guide-length, guide-size, guide-entry, entry-below, entry-word, listed, guide-checked, guide-same}
use Rattle.query_guided.specs.Guided.{steps_to, find_guided_reply, steps_of, IsFindGuidedAnswer}
use Rattle.query_guided.specs.GuidedWalk.{stepped, found_of, SoughtBy}

answer-same : (f : Result (TextPlace × ℕ) Refusal) (steps : ℕ) → replied (find_guided_reply (stepped f steps)) ≡ replied (select.find_reply f)
answer-same (Ok x) steps = refl
answer-same (Err n) steps = refl

pub numbered-same : (f : Result (TextPlace × ℕ) Refusal) (steps : ℕ) → NeverZero (select.find_reply f) → NeverZero (find_guided_reply (stepped f steps))
numbered-same (Ok x) steps h = tt
numbered-same (Err n) steps h = h

-- Without its steps it is settled by the guide's number.
pub found-by : (t guide : List ℕ) (byte j : ℕ) (g : Result (TextPlace × ℕ × ℕ) Refusal) → IsFindGuidedAnswer t guide byte j g
    → select.FoundBy t (guide_refusal t guide) byte j (found_of g)
found-by t guide byte j (Ok x) a = record { answers = a.answers.finds; numbered = tt }
found-by t guide byte j (Err n) a = record { answers = a.answers.finds; numbered = a.numbered }

module _ (t guide : List ℕ) (byte c j : ℕ)
    (hc : c < at.counted_count t) (low : 1 ≤ j) (high : j ≤ total t c) (place : ℕ) (place_is : place ≡ entries_before t c + last_entry j) where
  entry_listed : last_entry j < entries_of t c
  entry_listed = listed t c j low high

  module _ (g : guide_refusal t guide ≡ 0) where
    v : check_result t ≡ 0
    v = guide-checked t guide g

    below : place < length (guide_of t)
    below = omega (arith, entry-below t c (last_entry j) hc entry_listed)

    there : 4 * place + 4 ≤ length guide
    there = omega (arith, below, ap (λ (l : List ℕ). length l) (guide-same t guide g), guide-size t, guide-length t)

    listed-low : 1 ≤ last_listed j
    listed-low = omega arith

    listed-high : last_listed j ≤ total t c
    listed-high = omega arith

    -- The entry is that of the last sampled occurrence up to j.
    entry-is : word_at guide (4 * place) ≡ block_of t c (last_listed j)
    entry-is =
        ap (λ (l : List ℕ). word_at l (4 * place)) (guide-same t guide g) ∙ entry-word t v place below
        ∙ ap (λ (k : ℕ). get_or (guide_of t) k 0) place_is ∙ guide-entry t c (last_entry j) hc entry_listed

    entry_in : word_at guide (4 * place) < at.level_count t 0
    entry_in = rw entry-is (block_in t v c hc (last_listed j) listed-low listed-high)

    entry-low : at.before t 0 (word_at guide (4 * place)) c < j
    entry-low = rw entry-is (omega (arith, block-low t v c hc (last_listed j) listed-low listed-high))

  -- No such entry.
  pub entry-missing : length guide / 4 ≤ place → SoughtBy t guide byte c j (refused 14) 0
  entry-missing past = record { accepted = λ g. absurd (let z : ⊥ = omega (arith, there g) in z); free = inl (refl, refl) }

  -- The entry names no block.
  pub entry-astray : at.level_count t 0 ≤ word_at guide (4 * place) → SoughtBy t guide byte c j (refused 14) 0
  entry-astray past = record { accepted = λ g. absurd (let z : ⊥ = omega (arith, entry_in g) in z); free = inl (refl, refl) }

  module _ (entry block steps : ℕ) (entry_read : entry ≡ word_at guide (4 * place))
      (last : LastBefore t c 0 entry (at.level_count t 0) j block) (steps-are : entry + steps ≡ block) where
    pub stops : sought.Stopped t c j block
    stops = record { block_in = last.high; next = last.next }

    -- The steps lead to the block that holds the place.
    counted : (g : guide_refusal t guide ≡ 0) → (at.before t 0 block c < j) × (steps ≡ steps_to t c j)
    unfolding steps_to
    counted g =
        let under = last-here t c 0 entry (at.level_count t 0) j block last (rw entry_read (entry-low g)) in
        let b = block_is t (v g) c hc j low high block last.high under last.next in
        (under, omega (arith, steps-are, b, entry_read, entry-is g))

    pub sought-by : (f : Result (TextPlace × ℕ) Refusal) → NeverZero (select.find_reply f)
        → sought.SoughtIn t byte c j block (replied (select.find_reply f))
        → SoughtBy t guide byte c j (replied (find_guided_reply (stepped f steps))) (steps_of (stepped f steps))
    unfolding found
    sought-by f nb z = record {
      accepted = λ g.
          let k = counted g in
          let e = z.accepted (v g) k.0 in
          (answer-same f steps ∙ e, steps-right f nb e k.1);
      free = free_of f nb z.free;
    }
      where
        steps-right : (f : Result (TextPlace × ℕ) Refusal) → NeverZero (select.find_reply f)
            → replied (select.find_reply f) ≡ found t byte j → steps ≡ steps_to t c j → steps_of (stepped f steps) ≡ steps_to t c j
        steps-right (Ok x) nb r k = k
        steps-right (Err n) nb r k = absurd (let z : refusal_number n ≡ 0 = ap (λ (s : Answer). s.number) r in let y : ⊥ = omega arith in y)

        free_of : (f : Result (TextPlace × ℕ) Refusal) → NeverZero (select.find_reply f)
            → (replied (select.find_reply f) ≡ refused 14)
            ⊎ (((replied (select.find_reply f)).number ≡ 0) × ((replied (select.find_reply f)).value < at.text_length t))
            → ((replied (find_guided_reply (stepped f steps)) ≡ refused 14) × (steps_of (stepped f steps) ≡ 0))
            ⊎ (((replied (find_guided_reply (stepped f steps))).number ≡ 0) × ((replied (find_guided_reply (stepped f steps))).value < at.text_length t))
        free_of (Ok x) nb (inl r) = absurd (let z : ◌≡◌ {A = ℕ} 0 14 = ap (λ (s : Answer). s.number) r in let y : ⊥ = omega arith in y)
        free_of (Ok x) nb (inr r) = inr r
        free_of (Err n) nb (inl r) = inl (r, refl)
        free_of (Err n) nb (inr r) = absurd (let y : ⊥ = omega (arith, r.0) in y)

module _ (t guide : List ℕ) (byte j : ℕ) where
  -- A question before the walk refuses.
  pub guided-refused : (q : Refusal) → find_refusal t byte j ≡ refusal_number q → IsFindGuidedAnswer t guide byte j (Err q)
  guided-refused q e = record {
    answers = record {
      finds = record { asked = λ m. rw e; accepted = λ z g. absurd (none z); free = λ z g. absurd (none z) };
      absent = λ m. refl;
      counted = λ z g. absurd (none z);
    };
    numbered = number-above q;
  }
    where
      none : find_refusal t byte j ≡ 0 → ⊥
      none z = omega (arith, number-above q)

  pub guided-sought : (c : ℕ) (r : Result (TextPlace × ℕ × ℕ) Refusal) → c ≡ number_of_byte t byte
      → find_refusal t byte j ≡ 0 → SoughtBy t guide byte c j (replied (find_guided_reply r)) (steps_of r) → NeverZero (find_guided_reply r)
      → IsFindGuidedAnswer t guide byte j r
  guided-sought c r e n z nb = record {
    answers = record {
      finds = record { asked = λ m. absurd (let y : ⊥ = omega arith in y); accepted = λ _ g. (z.accepted g).0; free = λ _ g. free_of z.free };
      absent = λ m. nothing r m;
      counted = λ _ g. subst (λ (k : ℕ). steps_of r ≡ steps_to t k j) e (z.accepted g).1;
    };
    numbered = nb;
  }
    where
      free_of : ((replied (find_guided_reply r) ≡ refused 14) × (steps_of r ≡ 0))
          ⊎ (((replied (find_guided_reply r)).number ≡ 0) × ((replied (find_guided_reply r)).value < at.text_length t))
          → (replied (find_guided_reply r) ≡ refused 14) ⊎ (((replied (find_guided_reply r)).number ≡ 0) × ((replied (find_guided_reply r)).value < at.text_length t))
      free_of (inl x) = inl x.0
      free_of (inr x) = inr x

      nothing : (r : Result (TextPlace × ℕ × ℕ) Refusal) → 0 < (replied (find_guided_reply r)).number → steps_of r ≡ 0
      nothing (Ok x) m = absurd (let y : ⊥ = omega arith in y)
      nothing (Err n) m = refl
