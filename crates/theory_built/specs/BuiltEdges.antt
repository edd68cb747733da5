-- The edges of the built tree are right for the text.
use Rattle.std.specs.Prelude.{List, true, not, ◌≡◌, ℕ, ◌+◌, ◌≤◌, ◌<◌, length}
use Rattle.std.proofs.Common.{sym, ap, ◌∙◌, arith, ext_get_or}
use Rattle.text.specs.Text.{all_below, substring}
use Rattle.text.specs.ListLaws.{all_below-make, eq-same_list, or_right}
use Rattle.text.specs.TextLaws.{length-substring, get_or-substring}
use Rattle.format.specs.Layout.{Settings, edges_of}
use Rattle.format.specs.EdgeLaws.{length-edges}
use Rattle.format.specs.Blocks.{tree_of}
use Rattle.format.specs.Layout as at
use Rattle.format.specs.LayoutLaws.{header-facts, edges-inside, leaf-start-inside}
use Rattle.format.specs.TreeReading.{block_edges_true, edges_true}
use Rattle.theory_built.specs.BlockSizes.{Taken}
use Rattle.theory_built.specs.Structure.{count, start, bytes_in}
use Rattle.theory_built.specs.BuiltRecords.{edges_in}
use Rattle.theory_built.specs.BuiltBytes.{edge-byte-is}
use Rattle.theory_built.specs.ReadBack.{read-layout, read-settings, read-level_count, read-edges_at, read-start, read-block_length}
use Rattle.theory_built.specs.BuiltHeader.{built-header}
use Rattle.theory_built.specs.BuiltLinks.{levels-are}

module _ (S : Settings) (T : List ℕ) (h : Taken S T) where
  abbrev t : List ℕ
  t = tree_of S T

  abbrev m : ℕ
  m = S.leaf

  leaf_is : (at.settings t).leaf ≡ S.leaf
  leaf_is = ap (λ (s : Settings). s.leaf) (read-settings S T h)

  module _ (l i : ℕ) (e : l < S.levels) (il : i < count S T l) where
    inside : at.edges_at t l i + (m + m) ≤ length t
    inside =
        let k = header-facts t (built-header S T h) in
        let in-levels : l < (at.settings t).levels = rw (levels-are S T h) e in
        let in_table : i < at.level_count t l = rw (read-level_count S T h l e) il in
        omega (arith, rw leaf_is at (edges-inside t k l i (read-layout S T h) in-levels in_table), leaf-start-inside t k)

    pub edges_are : substring t (at.edges_at t l i) (m + m) ≡ edges_in S T l i
    edges_are =
        ext_get_or 0 (substring t (at.edges_at t l i) (m + m))
        (edges_in S T l i) (length-substring t (at.edges_at t l i) (m + m) inside ∙ sym (length-edges m (substring T (start S T l i) (bytes_in S T l i))))
        (λ x hx. (let low : x < m + m = rw (length-substring t (at.edges_at t l i) (m + m) inside) at hx in
        get_or-substring t (at.edges_at t l i) (m + m) x low ∙ rw (read-edges_at S T h l i e il) (edge-byte-is S T h l i x e il low)))

    same_edges : substring t (at.edges_at t l i) ((at.settings t).leaf + (at.settings t).leaf)
        ≡ edges_of (at.settings t).leaf (substring T (at.start t l i) (at.block_length_at t l i))
    same_edges = rw (leaf_is, read-start S T h l i e il, read-block_length S T h l i e il) edges_are

    block-edges : block_edges_true T t l i ≡ true
    unfolding block_edges_true
    block-edges = eq-same_list _ _ same_edges

  all_edges : all_below (at.settings t).levels (λ l. all_below (at.level_count t l) (block_edges_true T t l)) ≡ true
  all_edges = rw (levels-are S T h) (all_below-make _ _ (λ l e.
      rw (read-level_count S T h l e) (all_below-make _ _ (λ i il. block-edges l i e il))))

  pub built-edges : edges_true T t ≡ true
  unfolding edges_true
  built-edges = or_right (not (at.has_edges t)) all_edges
