-- The levels of the block tree of a text: their blocks, and which of them contain first occurrences.
use Rattle.std.specs.Prelude.{List, [], Bool, ◌≡◌, ◌⊎◌, ℕ, zero, suc, ◌+◌, ◌-◌, ◌*◌, ◌/◌, ◌≤◌, ◌<◌, min}
use Rattle.std.proofs.Math.Bool.{true, false, cond}
use Rattle.std.proofs.Math.Path.{refl}
use Rattle.std.proofs.Common.{ap, ◌∙◌, inl, inr, div-add-mod', mod-lt, suc-mul, ne_eqb}
use native.Mathlib.Omega.{arith}
use Rattle.std.proofs.Math.ListN.{length, get_or}
use Rattle.text.specs.Text.{tabulate, concat, sum_below}
use Rattle.text.specs.ListLaws.{lt-or-ge, length-tabulate, get_or-tabulate, sum_below-ext}
use Rattle.format.specs.Layout.{Settings, block_length, pieces}
use Rattle.format.specs.Blocks.{starts_at, start_of, length_of, kept_by_pairs, is_kept, width, cut}
use Rattle.theory_built.specs.Gather.{length-concat, get_or-concat}
use Rattle.format.specs.PieceLaws.{lt-pieces}
use Rattle.theory_built.specs.BlockSizes.{Taken, size-pos, size-falls, size-le}
use Rattle.theory_built.specs.OccurrencesLand.{First, Holds, Pair, holds_kept, holds-next}
use Rattle.theory_built.specs.LevelBlocks.{Level, Cut, level-top, level-below}
use Rattle.theory_built.specs.Descent.{holds-below}
use Rattle.theory_built.specs.KeptRule.{byte_at, marks}

module _ (S : Settings) (T : List ℕ) where
  -- The block length of level l, its number of blocks, where its block i starts.
  abbrev pub size : ℕ → ℕ
  size l = block_length S l

  abbrev pub count : ℕ → ℕ
  count l = length (starts_at S T l)

  abbrev pub start : ℕ → ℕ → ℕ
  start l i = start_of T (block_length S l) (starts_at S T l) i

  -- How many bytes block i has, whether it is kept, and how many blocks or leaf bytes it has one level below.
  abbrev pub bytes_in : ℕ → ℕ → ℕ
  bytes_in l i = length_of T (block_length S l) (starts_at S T l) i

  abbrev pub kept_at : ℕ → ℕ → Bool
  kept_at l i = is_kept S T l (starts_at S T l) i

  abbrev pub width_of : ℕ → ℕ → ℕ
  width_of l i = width S T l (starts_at S T l) i

  -- Block i holds the len bytes from p, with the next one where that is needed.
  abbrev pub HoldsAt : ℕ → ℕ → ℕ → ℕ → Type 0
  HoldsAt l i p len = Holds (byte_at T) (length T) (size l) (count l) (start l) i p len

  pub start_is : (l i : ℕ) → start l i ≡ get_or (starts_at S T l) i 0
  unfolding start_of
  start_is l i = refl

  pub bytes_in-is : (l i : ℕ) → bytes_in l i ≡ min (size l) (length T - start l i)
  unfolding length_of
  bytes_in-is l i = refl

  -- Above the last level the pairs decide.
  pub kept-upper : (l i : ℕ) → suc l < S.levels → kept_at l i ≡ kept_by_pairs T (size l) (starts_at S T l) i
  unfolding is_kept
  kept-upper l i h = rw (ne_eqb (suc l) S.levels (λ e. omega arith))

  width-upper : (l i : ℕ) → suc l < S.levels → width_of l i ≡ cond (kept_at l i) (pieces (bytes_in l i) (size (suc l))) 0
  unfolding width
  width-upper l i h = rw (ne_eqb (suc l) S.levels (λ e. omega arith))

  children : ℕ → ℕ → List ℕ
  children l i = cond (kept_by_pairs T (size l) (starts_at S T l) i) (cut (start l i) (bytes_in l i) (size (suc l))) []

  starts-below : (l : ℕ) → starts_at S T (suc l) ≡ concat (tabulate (count l) (children l))
  unfolding starts_at children
  starts-below l = refl

  length-children : (l i : ℕ) → suc l < S.levels → length (children l i) ≡ width_of l i
  unfolding children cut
  length-children l i h = rw (width-upper l i h, kept-upper l i h) (go (kept_by_pairs T (size l) (starts_at S T l) i))
    where
      go : (k : Bool) → length (cond k (tabulate (pieces (bytes_in l i) (size (suc l))) (λ j. start l i + j * size (suc l))) [])
          ≡ cond k (pieces (bytes_in l i) (size (suc l))) 0
      go true = length-tabulate (pieces (bytes_in l i) (size (suc l))) (λ j. start l i + j * size (suc l))
      go false = refl

  get_or-children : (l i j : ℕ) → suc l < S.levels → j < width_of l i → get_or (children l i) j 0 ≡ start l i + j * size (suc l)
  unfolding children cut
  get_or-children l i j h k = go (kept_by_pairs T (size l) (starts_at S T l) i) (rw (width-upper l i h, kept-upper l i h) at k)
    where
      go : (y : Bool) → j < cond y (pieces (bytes_in l i) (size (suc l))) 0
          → get_or (cond y (tabulate (pieces (bytes_in l i) (size (suc l))) (λ j. start l i + j * size (suc l))) []) j 0 ≡ start l i + j * size (suc l)
      go true z = get_or-tabulate (pieces (bytes_in l i) (size (suc l))) (λ j. start l i + j * size (suc l)) j 0 z
      go false z = absurd (let y : ⊥ = omega arith in y)

  module _ (h : Taken S T) where
    widths : (l i : ℕ) → suc l < S.levels → sum_below i (λ i. length (children l i)) ≡ sum_below i (width_of l)
    widths l i k = sum_below-ext i _ _ (λ j _. length-children l j k)

    pub count-below : (l : ℕ) → suc l < S.levels → count (suc l) ≡ sum_below (count l) (width_of l)
    count-below l k = ap (λ (s : List ℕ). length s) (starts-below l) ∙ length-concat (count l) (children l) ∙ widths l (count l) k

    pub start-below : (l i j : ℕ) → suc l < S.levels → i < count l → j < width_of l i
        → start (suc l) (sum_below i (width_of l) + j) ≡ start l i + j * size (suc l)
    start-below l i j k il jl =
        start_is (suc l) (sum_below i (width_of l) + j)
        ∙ rw (starts-below l, ← widths l i k) (get_or-concat (count l) (children l) i j 0 il (rw (length-children l i k) jl) ∙ get_or-children l i j k jl)

    pub cut_at : (l : ℕ) → suc l < S.levels
        → Cut (length T) (size l) (count l) (start l) (kept_at l) (width_of l) (size (suc l)) (count (suc l)) (start (suc l))
    cut_at l k = record {
      arity = S.arity;
      lengths = size-falls S T h l k;
      size = size-pos S T h (suc l);
      cut = λ i y. width-upper l i k ∙ rw (y, bytes_in-is l i);
      uncut = λ i f. width-upper l i k ∙ rw f;
      count = count-below l k;
      child = λ i j il jl. start-below l i j k il jl;
    }

    pub count-top : count 0 ≡ pieces (length T) (size 0)
    unfolding starts_at cut
    count-top = length-tabulate (pieces (length T) (size 0)) (λ j. 0 + j * size 0)

    pub start-top : (i : ℕ) → i < count 0 → start 0 i ≡ i * size 0
    unfolding starts_at cut start_of
    start-top i l = get_or-tabulate (pieces (length T) (size 0)) (λ j. 0 + j * size 0) i 0 (rw count-top at l) ∙ omega arith

    -- Every level is in order.
    pub level_at : (l : ℕ) → l < S.levels → Level (length T) (size l) (count l) (start l)
    level_at zero k = level-top (length T) (size 0) (count 0) (start 0) (size-pos S T h 0) count-top start-top
    level_at (suc l) k = level-below (length T) (size l) (count l) (start l) (kept_at l) (width_of l) (size (suc l)) (count (suc l)) (start (suc l))
        (level_at l (omega arith)) (cut_at l k)

    -- A block that holds a first occurrence is kept, and so is the next where they are a pair.
    module _ (l p len i : ℕ) (k : suc l < S.levels) (f : First (byte_at T) (length T) p len) (small : len ≤ size l) (hold : HoldsAt l i p len) where
      pub holder-kept : kept_at l i ≡ true
      holder-kept = kept-upper l i k ∙ holds_kept (byte_at T) (length T) (size l) (count l) (start l) p len small f
          (λ i. kept_by_pairs T (size l) (starts_at S T l) i ≡ true) (marks T (size l) (starts_at S T l)) i hold

      pub holder-next-kept : Pair (byte_at T) (length T) (size l) (count l) (start l) i → kept_at l (suc i) ≡ true
      holder-next-kept pr = kept-upper l (suc i) k ∙ holds-next (byte_at T) (length T) (size l) (count l) (start l) p len small f
          (λ i. kept_by_pairs T (size l) (starts_at S T l) i ≡ true) (marks T (size l) (starts_at S T l)) i hold pr

    -- Level 0 covers the text.
    pub holds-top : (p len : ℕ) → 0 < len → p + len ≤ length T → (i : ℕ) × HoldsAt 0 i p len
    holds-top p len some fits = (
      i,
      record {
        below = il;
        from = omega (arith, start-top i il, div-add-mod' p (size 0));
        before = omega (arith, start-top i il, here);
        ends = go (lt-or-ge (start 0 i + size 0) (p + len));
      },
    )
      where
        i : ℕ
        i = p / size 0

        here : p < i * size 0 + size 0
        here = omega (arith, div-add-mod' p (size 0), mod-lt p (size-pos S T h 0))

        il : i < count 0
        il = rw count-top (lt-pieces (length T) (size 0) i (size-pos S T h 0) (omega (arith, div-add-mod' p (size 0))))

        go : (start 0 i + size 0 < p + len)
            ⊎ (p + len ≤ start 0 i + size 0) → (p + len ≤ start 0 i + size 0) ⊎ Pair (byte_at T) (length T) (size 0) (count 0) (start 0) i
        go (inr z) = inl z
        go (inl z) =
            let sl : suc i < count 0 =
            rw count-top (lt-pieces (length T) (size 0) (suc i) (size-pos S T h 0) (omega (arith, suc-mul i (size 0), start-top i il))) in
            inr (sl, omega (arith, start-top i il, start-top (suc i) sl, suc-mul i (size 0)))

    -- Every level has a block, or two adjacent ones, that contain a first occurrence.
    pub first-held : (l : ℕ) → l < S.levels → (p len : ℕ) → First (byte_at T) (length T) p len → 0 < len → len ≤ size l → (i : ℕ) × HoldsAt l i p len
    first-held zero k p len f some small = holds-top p len some f.within
    first-held (suc l) k p len f some small =
        let small' : len ≤ size l = omega (arith, size-le S T h l k) in
        let r = first-held l (omega arith) p len f some small' in
        holds-below (byte_at T) (length T) (size l) (count l) (start l) (kept_at l) (width_of l) (size (suc l)) (count (suc l)) (start (suc l))
        (level_at l (omega arith)) (cut_at l k) p len r.0 some f.within r.1
        (holder-kept l p len r.0 k f small' r.1) (holder-next-kept l p len r.0 k f small' r.1)
