-- The size bound holds for the tree of every text of that length, and for every tree that passes questions 5 to 8.
use Rattle.std.specs.Prelude.{List, true, false, ◌≡◌, ◌⊎◌, ℕ, zero, suc, ◌+◌, ◌-◌, ◌*◌, ◌^◌, ◌≤◌, ◌<◌, min, length}
use Rattle.std.proofs.Math.Path.{refl}
use Rattle.std.proofs.Common.{sym, ◌∙◌, inl, inr, arith, add-one, mul_comm, le_trans}
use Rattle.std.proofs.Math.Nat.{mul-le-mul_right}
use borrow.Author.Tests.{le-leb}
use Rattle.text.specs.Text.{sum_below}
use Rattle.text.specs.ListLaws.{bool_cases, sum_below-ext}
use Rattle.format.specs.Layout.{Settings, block_length, pieces, record_length, header_length}
use Rattle.format.specs.Blocks.{tree_of, record_bytes, leaf_bytes, built_layout}
use Rattle.format.specs.SizeLaws.{record-most, record-edged}
use Rattle.format.specs.Answers.{build_refusal}
use Rattle.format.specs.Layout as at
use Rattle.format.specs.TreeReading.{width_at, links_ok, header_result}
use Rattle.format.specs.LayoutLaws.{Readable, header-facts, full-step, full-pos}
use Rattle.theory_built.specs.BlockSizes as built
use Rattle.theory_built.specs.LevelBlocks.{Level, Cut, level-top, level-below}
use Rattle.theory_built.specs.Structure.{size, count, start, level_at}
use Rattle.theory_built.specs.BuiltLeafBytes.{leaves-le}
use Rattle.theory_built.specs.Pairs.{offset}
use Rattle.theory_built.specs.Shape.{tree-length}
use Rattle.theory_paths.specs.Links.{H, N, b, s, len, Linked, linked-facts, width-kept, width-last, width-pointing}
use Rattle.theory_paths.specs.BlockStarts.{last-kept}
use Rattle.build_size_bound.specs.SizeBound.{blocks_at_most, size_bound_for}
use Rattle.build_size_bound.specs.BlocksInOrder.{sum_below-mono, blocks-few, bytes-few}

-- A table of x records and y leaf bytes.
together : (x z R y n : ℕ) → x ≤ z → y ≤ n → header_length + x * R + y ≤ header_length + n + R * z
together x z R y n h k = omega (arith, mul-le-mul_right {m = x} {n = z} R h, mul_comm R z)

-- No layout has longer records than the one that is built.
record-least : (v m k : ℕ) → record_length v m k ≤ record_length built_layout m k
record-least v m k = omega (arith, record-most v m k, record-edged built_layout m k refl)

module _ (S : Settings) (T : List ℕ) (h : built.Taken S T) where
  all_blocks : sum_below S.levels (count S T) ≤ blocks_at_most (length T) S.leaf S.arity S.levels
  unfolding blocks_at_most block_length
  all_blocks = sum_below-mono S.levels (count S T) (λ l. pieces (length T) (S.leaf * S.arity ^ (S.levels - 1 - l)))
      (λ l e. blocks-few (length T) (size S T l) (count S T l) (start S T l) (level_at S T h l e))

  -- The tree of every text of that length.
  pub built-enough : length (tree_of S T) ≤ size_bound_for (length T) S.leaf S.arity S.levels (length S.counted)
  unfolding offset record_bytes
  built-enough = rw (tree-length S T h)
      (together (sum_below S.levels (count S T))
      (blocks_at_most (length T) S.leaf S.arity S.levels) (record_bytes S) (length (leaf_bytes S T)) (length T)
      all_blocks (leaves-le S T h))

  -- With a buffer of that size question 4 never refuses.
  pub never-full : (out : List ℕ) → size_bound_for (length T) S.leaf S.arity S.levels (length S.counted) ≤ length out → build_refusal S T out ≡ 0
  unfolding build_refusal
  never-full out room = rw (h.length-ok, h.sizes-ok, h.counted-ok, le-leb (length (tree_of S T)) (length out) (omega (arith, built-enough)))

-- Any tree that passes questions 5 to 8.
module _ (t : List ℕ) (k : Readable t) (d : Linked t) where
  abbrev n : ℕ
  n = at.text_length t

  len_is : (l i : ℕ) → len t l i ≡ min (b t l) (n - s t l i)
  unfolding at.block_length_at
  len_is l i = refl

  cut : (l : ℕ) → l + 1 < H t → Cut n (b t l) (N t l) (s t l) (at.is_kept t l) (width_at t l) (b t (l + 1)) (N t (l + 1)) (s t (l + 1))
  cut l up = record {
    arity = (at.settings t).arity;
    lengths = full-step t k l up ∙ mul_comm (b t (l + 1)) (at.settings t).arity;
    size = full-pos t k (l + 1);
    cut = λ i y. width-kept t l i up y ∙ rw (len_is l i);
    uncut = λ i y. width-pointing t l i y;
    count = sym (d.next_count l up);
    child = λ i j il jl. child i j il jl (bool_cases (at.is_kept t l i));
  }
    where
      child : (i j : ℕ) → i < N t l → j < width_at t l i → (at.is_kept t l i ≡ true) ⊎ (at.is_kept t l i ≡ false)
          → s t (l + 1) (sum_below i (width_at t l) + j) ≡ s t l i + j * b t (l + 1)
      child i j il jl (inl y) = let q = d.kept l i (omega arith) il y in rw (← q.link_is) (q.child_start up j jl)
      child i j il jl (inr y) = absurd (let z : ⊥ = omega (arith, width-pointing t l i y) in z)

  in_order : (l : ℕ) → l < H t → Level n (b t l) (N t l) (s t l)
  in_order zero e = level-top n (b t 0) (N t 0) (s t 0) (full-pos t k 0) k.level0 d.start0
  in_order (suc l) e =
      let up : l + 1 < H t = omega arith in
      let below : Level n (b t (l + 1)) (N t (l + 1)) (s t (l + 1)) =
      level-below n (b t l) (N t l) (s t l) (at.is_kept t l) (width_at t l) (b t (l + 1)) (N t (l + 1)) (s t (l + 1)) (in_order l (omega arith)) (cut l up) in
      rw (add-one l) at below

  tables : sum_below (H t) (N t) ≤ blocks_at_most n (at.settings t).leaf (at.settings t).arity (H t)
  unfolding blocks_at_most block_length at.full_length
  tables = sum_below-mono (H t) (N t) (λ l. pieces n ((at.settings t).leaf * (at.settings t).arity ^ (H t - 1 - l)))
      (λ l e. blocks-few n (b t l) (N t l) (s t l) (in_order l e))

  leaves : at.leaf_count t ≤ n
  leaves =
      let last : H t - 1 < H t = omega (arith, k.bounds.levels_low) in
      let all : sum_below (N t (H t - 1)) (width_at t (H t - 1)) ≡ sum_below (N t (H t - 1)) (λ i. min (b t (H t - 1)) (n - s t (H t - 1) i)) =
      sum_below-ext (N t (H t - 1))
      (width_at t (H t - 1)) (λ i. min (b t (H t - 1)) (n - s t (H t - 1) i)) (λ i il. width-last t i (last-kept t k d i il) ∙ len_is (H t - 1) i) in
      omega (
        arith,
        d.leaf-count (omega (arith, k.bounds.levels_low)),
        all,
        bytes-few n (b t (H t - 1)) (N t (H t - 1)) (s t (H t - 1)) (in_order (H t - 1) last),
      )

  whole : length t ≤ size_bound_for n (at.settings t).leaf (at.settings t).arity (H t) (at.counted_count t)
  unfolding at.record_size
  whole =
      let z = blocks_at_most n (at.settings t).leaf (at.settings t).arity (H t) in
      let most : record_length (at.layout t)
      (at.settings t).leaf (at.counted_count t) * z ≤ record_length built_layout (at.settings t).leaf (at.counted_count t) * z =
      mul-le-mul_right z (record-least (at.layout t) (at.settings t).leaf (at.counted_count t)) in
      rw (k.size, k.leaf-at)
      (le_trans (together (sum_below (H t) (N t)) z (at.record_size t) (at.leaf_count t) n tables leaves) (omega (arith, most)))

-- Every accepted tree of that shape is at most as long.
pub accepted-enough : (t : List ℕ) → header_result t ≡ 0 → links_ok t ≡ true
    → length t ≤ size_bound_for (at.text_length t) (at.settings t).leaf (at.settings t).arity (at.settings t).levels (at.counted_count t)
accepted-enough t r h = whole t (header-facts t r) (linked-facts t h)
