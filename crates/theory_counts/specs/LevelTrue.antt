-- The counts of a level are right for the tree's text, as plain facts.
use Rattle.std.specs.Prelude.{List, [], ◌∷◌, true, cond, ◌&&◌, ◌≡◌, eqb}
use Rattle.std.proofs.Math.Bool.{Bool}
use Prim.Native.Nat.{ℕ, zero, suc, ◌-◌, ◌*◌, ◌/◌, ◌<◌}
use Rattle.std.proofs.Common.{eqb-true, eq-eqb}
use Rattle.text.specs.Text.{all_below, substring, count_in}
use Rattle.text.specs.ListLaws.{and_both, all_below-at, all_below-make}
use Rattle.text.specs.Conjunctions.{parts}
use Rattle.format.specs.Layout as at
use Rattle.format.specs.TreeReading.{text_of, block_counts_true, counts_true}
use Rattle.theory_paths.specs.Links.{H, N, s, len}
use Rattle.theory_counts.specs.CountsLocal.{byte_of}

module _ (t : List ℕ) where
  -- How often counted byte number c occurs in the x bytes of the text from place p.
  unfoldable pub tally : ℕ → ℕ → ℕ → ℕ
  tally c p x = count_in (byte_of t c) (substring (text_of t) p x)

  -- The start of the parent of a block of level l that starts at p; the text's on level 0.
  unfoldable pub place_in_parent : ℕ → ℕ → ℕ
  place_in_parent zero p = 0
  place_in_parent (suc l) p = p / at.full_length t l * at.full_length t l

  -- The counts of byte number c in block i are those of the text.
  pub record Block (l i c : ℕ) : Type 0 where
    pub before-is : at.before t l i c ≡ tally c (place_in_parent l (s t l i)) (s t l i - place_in_parent l (s t l i))
    pub inside_is : at.inside t l i c ≡ tally c (s t l i) (len t l i)
    pub skip_is : at.skip t l i c ≡ cond (at.is_kept t l i) 0 (tally c (s t l (at.link t l i)) (at.gap t l i))

  abbrev pub Level : ℕ → Type 0
  Level l = (i c : ℕ) → i < N t l → c < at.counted_count t → Block l i c

  -- The test of one block, and the facts that it decides.

  three : (a a₁ b b₁ c c₁ : ℕ) → (eqb a a₁ && eqb b b₁ && eqb c c₁) ≡ true → (a ≡ a₁) × (b ≡ b₁) × (c ≡ c₁)
  three a a₁ b b₁ c c₁ h =
      let p = parts (eqb a a₁) (eqb b b₁ ∷ eqb c c₁ ∷ []) h in (eqb-true a a₁ p.0, eqb-true b b₁ p.1.0, eqb-true c c₁ p.1.1.0)

  block-facts : (l i c : ℕ) → block_counts_true (text_of t) t l i c ≡ true → Block l i c
  unfolding block_counts_true byte_of tally place_in_parent
  block-facts zero i c h =
      let up = place_in_parent 0 (s t 0 i) in
      let a = three (at.before t 0 i c) (tally c up (s t 0 i - up)) (at.inside t 0 i c) (tally c (s t 0 i) (len t 0 i))
      (at.skip t 0 i c) (cond (at.is_kept t 0 i) 0 (tally c (s t 0 (at.link t 0 i)) (at.gap t 0 i))) h in
      record { before-is = a.0; inside_is = a.1; skip_is = a.2 }
  block-facts (suc l) i c h =
      let up = place_in_parent (suc l) (s t (suc l) i) in
      let a = three (at.before t (suc l) i c) (tally c up (s t (suc l) i - up)) (at.inside t (suc l) i c) (tally c (s t (suc l) i) (len t (suc l) i))
      (at.skip t (suc l) i c) (cond (at.is_kept t (suc l) i) 0 (tally c (s t (suc l) (at.link t (suc l) i)) (at.gap t (suc l) i))) h in
      record { before-is = a.0; inside_is = a.1; skip_is = a.2 }

  block-make : (l i c : ℕ) → Block l i c → block_counts_true (text_of t) t l i c ≡ true
  unfolding block_counts_true byte_of tally place_in_parent
  block-make zero i c h = and_both (and_both (eq-eqb _ _ h.before-is) (eq-eqb _ _ h.inside_is)) (eq-eqb _ _ h.skip_is)
  block-make (suc l) i c h = and_both (and_both (eq-eqb _ _ h.before-is) (eq-eqb _ _ h.inside_is)) (eq-eqb _ _ h.skip_is)

  -- The counts are true exactly where each level's are.

  pub counts-facts : counts_true (text_of t) t ≡ true → (l : ℕ) → l < H t → Level l
  unfolding counts_true
  counts-facts h l hl i c hi hc =
      let block : ℕ → Bool = λ x. all_below (at.counted_count t) (block_counts_true (text_of t) t l x) in
      let level : ℕ → Bool = λ y. all_below (N t y) (λ x. all_below (at.counted_count t) (block_counts_true (text_of t) t y x)) in
      block-facts l i c (all_below-at (at.counted_count t)
      (block_counts_true (text_of t) t l i) (all_below-at (N t l) block (all_below-at (H t) level h l hl) i hi) c hc)

  pub counts-make : ((l : ℕ) → l < H t → Level l) → counts_true (text_of t) t ≡ true
  unfolding counts_true
  counts-make h =
      all_below-make (H t) _ (λ l hl. all_below-make (N t l) _ (λ i hi. all_below-make (at.counted_count t) _ (λ c hc. block-make l i c (h l hl i c hi hc))))
