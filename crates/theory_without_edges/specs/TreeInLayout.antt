-- The block tree of a text in layout v, 1 or 2. `Blocks` defines it for the layout that is built; `same-built` shows that both agree for it.
-- docs/FORMAT.md: "Blocks", "Layout".
use mathlib.Core.List.{List, [], ◌∷◌, ◌++◌}
use Rattle.std.specs.Prelude.{cond, ◌≡◌, replicate, eqb}
use Rattle.std.proofs.Math.Path.{refl, ap}
use Prim.Native.Nat.{ℕ, zero, suc, ◌+◌, ◌-◌, ◌*◌}
use Rattle.std.proofs.Math.ListN.{length}
use Rattle.text.specs.Text.{tabulate, concat, sum_below, substring}
use Rattle.format.specs.Layout.{words_bytes, Settings, max_counted, max_levels, block_length, record_length, header_length, edges_of}
use Rattle.format.specs.Blocks.{start_of, length_of, starts_at, record_of, record_in, level_bytes, leaf_bytes, built_layout, record_bytes, level_pairs, header, tree_of}

module _ (v : ℕ) (S : Settings) (T : List ℕ) where
  -- The size of a record.
  unfoldable pub size_in_layout : ℕ
  size_in_layout = record_length v S.leaf (length S.counted)

  -- The bytes of block i's record on level l: its words, and in layout 2 its edges.
  unfoldable pub bytes_of : ℕ → ℕ → List ℕ
  bytes_of l i =
      let starts = starts_at S T l in
      let b = block_length S l in
      words_bytes (record_of S T l starts i) ++ cond (eqb v 2) (edges_of S.leaf (substring T (start_of T b starts i) (length_of T b starts i))) []

  unfoldable pub level_in_layout : ℕ → List ℕ
  level_in_layout l = concat (tabulate (length (starts_at S T l)) (bytes_of l))

  -- The header's two words for each of a level and those below it: its block count and its offset.
  unfoldable pub pairs_in : ℕ → ℕ → ℕ → List ℕ
  pairs_in zero l at = []
  pairs_in (suc more) l at =
      let count = length (starts_at S T l) in
      count ∷ at ∷ pairs_in more (suc l) (at + count * size_in_layout)

  unfoldable pub header_in : List ℕ
  header_in =
      let H = S.levels in
      let k = length S.counted in
      let leaves = header_length + sum_below H (λ l. length (starts_at S T l)) * size_in_layout in
      words_bytes (v ∷ length T ∷ S.leaf ∷ S.arity ∷ H ∷ k ∷ [])
      ++ (S.counted ++ replicate (max_counted - k) 0)
      ++ words_bytes (pairs_in H 0 header_length ++ replicate (2 * max_levels - 2 * H) 0 ++ leaves ∷ length (leaf_bytes S T) ∷ [])

  unfoldable pub tree_in : List ℕ
  tree_in = header_in ++ concat (tabulate S.levels level_in_layout) ++ leaf_bytes S T

-- In the layout that is built, it is the built tree.
module _ (S : Settings) (T : List ℕ) where
  same-pairs : (more l at : ℕ) → pairs_in built_layout S T more l at ≡ level_pairs S T more l at
  unfolding pairs_in level_pairs size_in_layout record_bytes
  same-pairs zero l at = refl
  same-pairs (suc more) l at =
      ap (λ (ws : List ℕ). length (starts_at S T l) ∷ at ∷ ws) (same-pairs more (suc l) (at + length (starts_at S T l) * record_bytes S))

  pub same-built : tree_in built_layout S T ≡ tree_of S T
  unfolding tree_in tree_of header_in header level_in_layout level_bytes bytes_of record_in size_in_layout record_bytes
  same-built = rw (same-pairs S.levels 0 header_length)
