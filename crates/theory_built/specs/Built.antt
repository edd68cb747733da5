-- The block tree of a text passes questions 5 to 8, the text fits it, and its counts and edges are right for the text.
use Rattle.std.specs.Prelude.{List, true, ◌≡◌, ℕ, ◌≤◌, length}
use Rattle.std.proofs.Common.{arith}
use Rattle.format.specs.Layout.{Settings}
use Rattle.format.specs.Blocks.{tree_of}
use Rattle.format.specs.TreeReading.{links_ok, text_of, counts_true, edges_true, header_result, check_result}
use Rattle.format.specs.FittingText.{fits}
use Rattle.theory_built.specs.BlockSizes.{Taken, bounds, max_tree}
use Rattle.theory_built.specs.BuiltLeafBytes.{leaves-le}
use Rattle.theory_built.specs.Shape.{tree-length}
use Rattle.theory_built.specs.SizeBounds.{offset-le}
use Rattle.theory_built.specs.BuiltHeader.{long-enough, layout-ok, header_ok, built-header}
use Rattle.theory_built.specs.BuiltLinks.{built-linked}
use Rattle.theory_built.specs.BuiltFits.{built-fits}
use Rattle.theory_built.specs.BuiltCounts.{built-counts}
use Rattle.theory_built.specs.BuiltEdges.{built-edges}

pub record Built (S : Settings) (T : List ℕ) : Type 0 where
  pub read : header_result (tree_of S T) ≡ 0
  pub linked : links_ok (tree_of S T) ≡ true
  pub fitting : fits T (tree_of S T) ≡ true
  pub counted : counts_true T (tree_of S T) ≡ true
  pub edged : edges_true T (tree_of S T) ≡ true

module _ (S : Settings) (T : List ℕ) (h : Taken S T) where
  -- For every text and all settings that the builder takes.
  pub built : Built S T
  built = record {
    read = built-header S T h;
    linked = built-linked S T h;
    fitting = built-fits S T h;
    counted = built-counts S T h;
    edged = built-edges S T h;
  }

  -- If the tree's text is the text that it was built of, the check accepts it.
  pub built-accepted : text_of (tree_of S T) ≡ T → check_result (tree_of S T) ≡ 0
  unfolding check_result
  built-accepted e = rw (long-enough S T h, layout-ok S T h, header_ok S T h, built-linked S T h, e, built-counts S T h, built-edges S T h)

  -- How large a tree can be.
  pub tree-small : length (tree_of S T) ≤ max_tree
  tree-small = rw (tree-length S T h) (omega (arith, offset-le S T h S.levels (omega arith), leaves-le S T h, (bounds S T h).text_high))
