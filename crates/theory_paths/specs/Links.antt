-- What questions 7 and 8 give of a tree's blocks, as plain facts over the accessors of `Layout`.
use Rattle.std.specs.Prelude.{List, [], ◌∷◌, not, ◌&&◌, ◌||◌, ◌≡◌, refl, ◌⊎◌}
use Rattle.std.proofs.Math.Bool.{Bool, true, false}
use Rattle.std.proofs.Common.{inl, inr}
use Prim.Native.Nat.{ℕ, ◌+◌, ◌-◌, ◌*◌, ◌≤◌, ◌<◌}
use native.Mathlib.Omega.{arith}
use borrow.Author.Tests.{eqb-true, eqb-false, eq-eqb, ne_eqb, leb-true, ltb-true, not-true}
use Rattle.std.proofs.Math.Dec.{eqb, ltb, leb}
use Rattle.text.specs.Text.{all_below, sum_below}
use Rattle.text.specs.ListLaws.{and_left, and_right, or_cases, all_below-at, below_suc}
use Rattle.text.specs.Conjunctions.{parts}
use Rattle.format.specs.Layout.{pieces}
use Rattle.format.specs.Layout as at
use Rattle.format.specs.TreeReading.{last_level, width_at, kept_right, pointing_right, block_right, count_below_right, links_ok}

module _ (t : List ℕ) where
  -- Short names: the levels, the blocks of level l, the length of a full one, a block's start and its length.
  abbrev pub H : ℕ
  H = (at.settings t).levels

  abbrev pub N : ℕ → ℕ
  N l = at.level_count t l

  abbrev pub b : ℕ → ℕ
  b l = at.full_length t l

  abbrev pub s : ℕ → ℕ → ℕ
  s l i = at.start t l i

  abbrev pub len : ℕ → ℕ → ℕ
  len l i = at.block_length_at t l i

  -- Widths: how many children, or on the last level leaf bytes, a block has.

  pub width-kept : (l i : ℕ) → l + 1 < H → at.is_kept t l i ≡ true → width_at t l i ≡ pieces (len l i) (b (l + 1))
  unfolding width_at last_level
  width-kept l i h kept = let e : eqb l (H - 1) ≡ false = ne_eqb l (H - 1) (λ e. omega arith) in rw (kept, e)

  pub width-last : (i : ℕ) → at.is_kept t (H - 1) i ≡ true → width_at t (H - 1) i ≡ len (H - 1) i
  unfolding width_at last_level
  width-last i kept = rw (kept, eq-eqb (H - 1) (H - 1) refl)

  pub width-pointing : (l i : ℕ) → at.is_kept t l i ≡ false → width_at t l i ≡ 0
  unfolding width_at
  width-pointing l i un = rw un

  -- A kept block: its link counts what the kept blocks before it have one level below, and its children start as cut.
  pub record Kept (l i : ℕ) : Type 0 where
    pub link_is : at.link t l i ≡ sum_below i (width_at t l)
    pub gap_is : at.gap t l i ≡ 0
    pub child_start : l + 1 < H → (j : ℕ) → j < width_at t l i → s (l + 1) (at.link t l i + j) ≡ s l i + j * b (l + 1)

  -- The block after the target: in the table, kept, and it follows the target in the text.
  pub record Follows (l j : ℕ) : Type 0 where
    pub below : j + 1 < N l
    pub kept : at.is_kept t l (j + 1) ≡ true
    pub start_is : s l (j + 1) ≡ s l j + b l

  -- A pointing block is above the last level; its occurrence is in kept blocks and ends before the block starts, or where it starts.
  pub record Pointing (l i : ℕ) : Type 0 where
    pub kind_is : at.kind t l i ≡ 1
    pub above : l + 1 < H
    pub gap_small : at.gap t l i < b l
    pub target_below : at.link t l i < N l
    pub target_kept : at.is_kept t l (at.link t l i) ≡ true
    pub ends : s l (at.link t l i) + at.gap t l i + len l i ≤ s l i
    pub next : b l < at.gap t l i + len l i → Follows l (at.link t l i)

  pub pointing-kind : (l i : ℕ) → Pointing l i → at.is_pointing t l i ≡ true
  unfolding at.is_pointing
  pointing-kind l i p = rw p.kind_is

  pub points-not-kept : (l i : ℕ) → at.is_pointing t l i ≡ true → at.is_kept t l i ≡ false
  unfolding at.is_pointing at.is_kept
  points-not-kept l i h = rw (eqb-true (at.kind t l i) 1 h)

  pub record Linked : Type 0 where
    pub start0 : (i : ℕ) → i < N 0 → s 0 i ≡ i * b 0
    pub next_count : (l : ℕ) → l + 1 < H → sum_below (N l) (width_at t l) ≡ N (l + 1)
    pub leaf-count : 0 < H → sum_below (N (H - 1)) (width_at t (H - 1)) ≡ at.leaf_count t
    pub kept : (l i : ℕ) → l < H → i < N l → at.is_kept t l i ≡ true → Kept l i
    pub points : (l i : ℕ) → l < H → i < N l → at.is_kept t l i ≡ false → Pointing l i

  -- From the tests of question 8 to these facts.

  kept-facts : (l i : ℕ) → kept_right t l i ≡ true → Kept l i
  unfolding kept_right last_level
  kept-facts l i h =
      let children : ℕ → Bool = λ j. eqb (s (l + 1) (at.link t l i + j)) (s l i + j * b (l + 1)) in
      let a = parts (eqb (at.link t l i) (sum_below i (width_at t l)))
      (eqb (at.gap t l i) 0 ∷ (eqb l (H - 1) || all_below (width_at t l i) children) ∷ []) h in record {
        link_is = eqb-true _ _ a.0;
        gap_is = eqb-true _ _ a.1.0;
        child_start = λ hl j hj. eqb-true
            _ _ (all_below-at (width_at t l i) children (go hl (or_cases (eqb l (H - 1)) (all_below (width_at t l i) children) a.1.1.0)) j hj);
      }
    where
      go : {A : Bool} → l + 1 < H → (eqb l (H - 1) ≡ true) ⊎ (A ≡ true) → A ≡ true
      go hl (inl e) = absurd (let z : l ≡ H - 1 = eqb-true l (H - 1) e in omega arith)
      go hl (inr h) = h

  next-facts : (l j g x : ℕ)
      → (leb (g + x) (b l) || (ltb (j + 1) (N l) && at.is_kept t l (j + 1) && eqb (s l (j + 1)) (s l j + b l))) ≡ true
      → b l < g + x → Follows l j
  next-facts l j g x h over = go (or_cases short next h)
    where
      short : Bool
      short = leb (g + x) (b l)

      next : Bool
      next = ltb (j + 1) (N l) && at.is_kept t l (j + 1) && eqb (s l (j + 1)) (s l j + b l)

      go : (short ≡ true) ⊎ (next ≡ true) → Follows l j
      go (inl e) = absurd (let z : g + x ≤ b l = leb-true (g + x) (b l) e in omega arith)
      go (inr e) =
          let a = parts (ltb (j + 1) (N l)) (at.is_kept t l (j + 1) ∷ eqb (s l (j + 1)) (s l j + b l) ∷ []) e in
          record { below = ltb-true _ _ a.0; kept = a.1.0; start_is = eqb-true _ _ a.1.1.0 }

  pointing-facts : (l i : ℕ) → l < H → pointing_right t l i ≡ true → Pointing l i
  unfolding pointing_right last_level
  pointing-facts l i hl h =
      let j = at.link t l i in
      let g = at.gap t l i in
      let ends = leb (s l j + g + len l i) (s l i) in
      let target = ltb j (N l) && at.is_kept t l j && ends in
      let next = leb (g + len l i) (b l) || (ltb (j + 1) (N l) && at.is_kept t l (j + 1) && eqb (s l (j + 1)) (s l j + b l)) in
      let a = parts (eqb (at.kind t l i) 1) (not (eqb l (H - 1)) ∷ ltb g (b l) ∷ target ∷ next ∷ []) h in
      let c = parts (ltb j (N l)) (at.is_kept t l j ∷ ends ∷ []) a.1.1.1.0 in
      let off : l ≡ H - 1 → ⊥ = eqb-false l (H - 1) (not-true (eqb l (H - 1)) a.1.0) in record {
        kind_is = eqb-true _ _ a.0;
        above = go (below_suc l (H - 1) (omega arith)) off;
        gap_small = ltb-true _ _ a.1.1.0;
        target_below = ltb-true _ _ c.0;
        target_kept = c.1.0;
        ends = leb-true _ _ c.1.1.0;
        next = next-facts l j g (len l i) a.1.1.1.1.0;
      }
    where
      go : (l < H - 1) ⊎ (l ≡ H - 1) → (l ≡ H - 1 → ⊥) → l + 1 < H
      go (inl h) off = omega arith
      go (inr e) off = absurd (off e)

  -- The conditions on one level.
  record Level (l : ℕ) : Type 0 where
    count : count_below_right t l ≡ true
    blocks : (i : ℕ) → i < N l → block_right t l i ≡ true

  level-facts : links_ok t ≡ true → (l : ℕ) → l < H → Level l
  unfolding links_ok
  level-facts h l hl =
      let starts : ℕ → Bool = λ i. eqb (s 0 i) (i * b 0) in
      let level : ℕ → Bool = λ x. count_below_right t x && all_below (N x) (block_right t x) in
      let here = all_below-at H level (and_right (all_below (N 0) starts) (all_below H level) h) l hl in record {
        count = and_left (count_below_right t l) (all_below (N l) (block_right t l)) here;
        blocks = all_below-at (N l) (block_right t l) (and_right (count_below_right t l) (all_below (N l) (block_right t l)) here);
      }

  level0-starts : links_ok t ≡ true → (i : ℕ) → i < N 0 → s 0 i ≡ i * b 0
  unfolding links_ok
  level0-starts h i hi =
      let starts : ℕ → Bool = λ i. eqb (s 0 i) (i * b 0) in
      let level : ℕ → Bool = λ x. count_below_right t x && all_below (N x) (block_right t x) in
      eqb-true _ _ (all_below-at (N 0) starts (and_left (all_below (N 0) starts) (all_below H level) h) i hi)

  count_next : (l : ℕ) → l + 1 < H → count_below_right t l ≡ true → sum_below (N l) (width_at t l) ≡ N (l + 1)
  unfolding count_below_right last_level
  count_next l hl h = eqb-true _ _ (rw (ne_eqb l (H - 1) (λ e. omega arith)) at h)

  count-last : count_below_right t (H - 1) ≡ true → sum_below (N (H - 1)) (width_at t (H - 1)) ≡ at.leaf_count t
  unfolding count_below_right last_level
  count-last h = eqb-true _ _ (rw (eq-eqb (H - 1) (H - 1) refl) at h)

  block-kept : (l i : ℕ) → at.is_kept t l i ≡ true → block_right t l i ≡ true → kept_right t l i ≡ true
  unfolding block_right
  block-kept l i k h = rw k at h

  block-points : (l i : ℕ) → at.is_kept t l i ≡ false → block_right t l i ≡ true → pointing_right t l i ≡ true
  unfolding block_right
  block-points l i k h = rw k at h

  pub linked-facts : links_ok t ≡ true → Linked
  linked-facts h = record {
    start0 = level0-starts h;
    next_count = λ l hl. count_next l hl (level-facts h l (omega arith)).count;
    leaf-count = λ h_h. count-last (level-facts h (H - 1) (omega arith)).count;
    kept = λ l i hl hi k. kept-facts l i (block-kept l i k ((level-facts h l hl).blocks i hi));
    points = λ l i hl hi k. pointing-facts l i hl (block-points l i k ((level-facts h l hl).blocks i hi));
  }
