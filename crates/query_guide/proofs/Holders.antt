-- Which block of level 0 holds the j-th byte of an accepted tree.
use mathlib.Core.List.{List}
use mathlib.Core.Path.{◌≡◌, refl, sym, ap, ◌∙◌}
use mathlib.Core.Logic.{◌⊎◌, inl, inr}
use Prim.Native.Nat.{ℕ, ◌+◌, ◌-◌, ◌*◌, ◌/◌, ◌≤◌, ◌<◌}
use native.Mathlib.Omega.{arith}
use native.Mathlib.Nat.{div-add-mod', div-le_self, add-mul, one-mul, mul-le-mul_right}
use lib.Arith.{digits_div}
use Rattle.text.specs.ListLaws.{lt-or-ge}
use Rattle.text.specs.Text.{place_of}
use Rattle.text.specs.CountLaws.{Nth}
use Rattle.text.proofs.CountTheorems.{nth_past, nth-before, place-nth, count-le, count-mono}
use Rattle.format.specs.Layout.{max_text}
use Rattle.format.specs.PieceLaws.{pieces-cover, lt-pieces}
use Rattle.format.specs.LayoutLaws.{Readable, header-facts, full-pos}
use Rattle.format.specs.CheckResultLaws.{accepted-header, accepted-links}
use Rattle.format.specs.Layout as at
use Rattle.format.specs.TreeReading.{text_of, check_result}
use Rattle.format.specs.Answers.{total}
use Rattle.theory_paths.specs.Links.{H, N, b, Linked, linked-facts}
use Rattle.theory_paths.specs.OneText.{text-length}
use Rattle.theory_counts.specs.CountsLocal.{byte_of}
use Rattle.theory_counts.specs.LevelTrue.{Level, tally}
use Rattle.theory_counts.specs.Finds as finds
use Rattle.theory_counts.specs.Theorems as counts
use Rattle.query_guide.specs.Guides.{block_of}

module _ (t : List ℕ) (v : check_result t ≡ 0) (c : ℕ) (hc : c < at.counted_count t) where
  k : Readable t
  k = header-facts t (accepted-header t v)

  d : Linked t
  d = linked-facts t (accepted-links t v)

  a : (m : ℕ) → m < H t → Level t m
  a = counts.levels t v

  pos : 0 < b t 0
  pos = full-pos t k 0

  pub total-few : total t c ≤ max_text
  total-few = omega (arith, finds.total_is t k d a c hc, count-le (byte_of t c) (text_of t), text-length t, k.bounds.text_high)

  module _ (j : ℕ) (low : 1 ≤ j) (high : j ≤ total t c) where
    place : ℕ
    place = place_of (byte_of t c) j (text_of t)

    is-nth : Nth (byte_of t c) j (text_of t) 0 place
    unfolding place
    is-nth = place-nth (byte_of t c) j (text_of t) low (omega (arith, finds.total_is t k d a c hc))

    block-is-place : block_of t c j ≡ place / b t 0
    unfolding block_of byte_of place
    block-is-place = refl

    parts : place / b t 0 * b t 0 ≤ place
    parts = omega (arith, div-add-mod' place (b t 0))

    -- The block is one of level 0.
    pub block_in : block_of t c j < at.level_count t 0
    block_in = rw (block-is-place, k.level0) (lt-pieces (at.text_length t) (b t 0) (place / b t 0) pos (omega (arith, parts, is-nth.within, text-length t)))

    pub block-few : block_of t c j < max_text
    block-few = rw block-is-place (omega (arith, div-le_self place (b t 0), is-nth.within, text-length t, k.bounds.text_high))

    -- Fewer than j occurrences are before it.
    pub block-low : at.before t 0 (block_of t c j) c < j
    unfolding tally
    block-low =
        let i = place / b t 0 in
        let hi : i < N t 0 = rw block-is-place at block_in in
        rw block-is-place (omega (arith, finds.top-before t k d a c hc i hi, count-mono (byte_of t c) (text_of t) 0 (i * b t 0) place parts, is-nth.rank))

    -- Fewer than j occurrences are before the first block.
    pub first-low : at.before t 0 0 c < j
    first-low = omega (arith, finds.top-rises t k d a c hc 0 (block_of t c j) (omega arith) block_in, block-low)

    -- No other block has fewer than j before it and j or more before the next.
    pub block_is : (i : ℕ) → i < at.level_count t 0 → at.before t 0 i c < j → (i + 1 < at.level_count t 0 → j ≤ at.before t 0 (i + 1) c) → i ≡ block_of t c j
    unfolding tally
    block_is i hi under next =
        let from : i * b t 0 ≤ place = nth_past (byte_of t c) j (text_of t) 0 (i * b t 0) place is-nth (omega (arith, finds.top-before t k d a c hc i hi)) in
        let o = place - i * b t 0 in
        let small : o < b t 0 = omega (arith, upto (lt-or-ge (i + 1) (N t 0)), add-mul i 1 (b t 0), one-mul (b t 0)) in
        let e : place ≡ i * b t 0 + o = omega (arith, from) in
        sym (block-is-place ∙ ap (λ (p : ℕ). p / b t 0) e ∙ digits_div i small)
      where
        upto : (i + 1 < N t 0) ⊎ (N t 0 ≤ i + 1) → place < (i + 1) * b t 0
        upto (inl h) = nth-before (byte_of t c) j (text_of t) 0 ((i + 1) * b t 0) place is-nth (omega (arith, finds.top-before t k d a c hc (i + 1) h, next h))
        upto (inr h) =
            let cover = rw (← k.level0) at (pieces-cover (at.text_length t) (b t 0) pos) in
            omega (arith, cover, mul-le-mul_right (b t 0) h, is-nth.within, text-length t)
