-- The figures of a tree that info returns for any bytes given as a tree, without reading the text; and the version of the library.
-- docs/FORMAT.md: "Figures and sizes".
use Rattle.std.specs.Prelude.{List, ◌∷◌, ◌++◌, cond, ℕ, ◌+◌, ◌*◌, get_or, replicate, ltb, eqb}
use Rattle.text.specs.Text.{tabulate}
use Rattle.format.specs.Layout.{max_counted, max_levels, counted_at}
use Rattle.format.specs.Layout as at
use Rattle.format.specs.TreeReading.{header_result}
use Rattle.format.specs.Answers.{total}

-- The version: major × 10000 + minor × 100 + patch.
abbrev pub version_number : ℕ
version_number = 10000 * 2 + 100 * 1 + 1

-- The number of figures before the counted bytes.
abbrev pub plain_figures : ℕ
plain_figures = 7

-- The index of the first total.
abbrev pub totals_from : ℕ
totals_from = plain_figures + max_counted

-- The number of all figures.
abbrev pub figure_count : ℕ
figure_count = totals_from + max_counted + max_levels

module _ (t : List ℕ) where
  -- Counted byte number c; 0 if there are fewer, by question 7.
  unfoldable pub counted_byte : ℕ → ℕ
  counted_byte c = get_or t (counted_at + c) 0

  -- The total of counted byte number c; 0 if there are fewer.
  unfoldable pub total_of : ℕ → ℕ
  total_of c = cond (ltb c (at.counted_count t)) (total t c) 0

  -- The layout, n, leaf, arity, levels, the number of leaf bytes, the number of counted bytes; then the counted bytes, their totals, and the number of blocks
  -- of each level.
  unfoldable pub figures_of : List ℕ
  figures_of =
      let S = at.settings t in
      at.layout t ∷ at.text_length t ∷ S.leaf ∷ S.arity ∷ S.levels ∷ at.leaf_count t ∷ at.counted_count t
      ∷ (tabulate max_counted counted_byte ++ tabulate max_counted total_of ++ tabulate max_levels (at.level_count t))

  -- The caller's figures afterwards: all 0 if questions 5 to 7 refuse the tree.
  unfoldable pub info_buffer : List ℕ
  info_buffer = cond (eqb (header_result t) 0) figures_of (replicate figure_count 0)
