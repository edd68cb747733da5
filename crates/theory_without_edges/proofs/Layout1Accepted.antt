-- The theorems on `without_edges`: it preserves questions 5 to 7, every field, path and leaf byte, the text, and acceptance by the check; it leaves a tree
-- of layout 1 unchanged and never makes one larger; of a built tree it is the block tree of the text in layout 1.
use Rattle.std.specs.Prelude.{List, true, ◌≡◌, ℕ, ◌+◌, ◌*◌, ◌≤◌, ◌<◌, length}
use Rattle.std.proofs.Common.{sym, ap, ◌∙◌, arith, mul-add}
use Rattle.text.specs.Text.{sum_below}
use Rattle.text.specs.ListLaws.{sum_below-ext}
use Rattle.format.specs.WordLaws.{word_at-lt}
use Rattle.format.specs.Layout.{field_bytes, leaf_offset_at, header_length, Settings}
use Rattle.format.specs.Blocks.{tree_of, starts_at, leaf_bytes}
use Rattle.format.specs.LayoutLaws.{Readable, header-facts, size-edged}
use Rattle.format.specs.Layout as at
use Rattle.format.specs.TreeReading.{path_of, links_ok, text_of, counts_true, ask, header_result, check_result}
use Rattle.format.specs.FittingText.{fits}
use Rattle.format.specs.Answers.{byte_answer}
use Rattle.format.specs.CheckResultLaws as check-results
use Rattle.theory_accepted.specs.AcceptedTrees.{Represents, accepted-represents, one-text}
use Rattle.theory_built.specs.BlockSizes.{Taken}
use Rattle.theory_built.specs.ReadBack as back
use Rattle.theory_built.specs.BuiltHeader.{built-header}
use Rattle.theory_without_edges.specs.WithoutEdges.{edgeless_layout, without_edges, AllBytes}
use Rattle.theory_without_edges.specs.TreeInLayout.{tree_in}
use Rattle.theory_without_edges.proofs.Layout1Built as built
use Rattle.theory_without_edges.proofs.Layout1Sizes as sizes
use Rattle.theory_without_edges.proofs.Layout1Reads as reads
use Rattle.theory_without_edges.proofs.Layout1Same as same
use Rattle.theory_without_edges.specs.TreesAgree as agree
use Rattle.theory_without_edges.specs.TreesExact as exact
use Rattle.theory_without_edges.specs.PathsAgree as paths

-- A word read from bytes is below 2^32.
leaf-small : (t : List ℕ) → AllBytes t → at.leaf_offset t < 4294967296
unfolding at.leaf_offset
leaf-small t byte = word_at-lt t leaf_offset_at byte

module _ (t : List ℕ) (byte : AllBytes t) where
  -- Any bytes that pass questions 5 to 7.
  module _ (r : header_result t ≡ 0) where
    k : Readable t
    k = header-facts t r

    -- The result passes them too, and its layout is 1.
    pub layout1-header : header_result (without_edges t) ≡ 0
    layout1-header = reads.layout1-header t k (leaf-small t byte)

    pub layout1-layout : at.layout (without_edges t) ≡ 1
    layout1-layout = reads.read-layout t k (leaf-small t byte)

    -- A tree of layout 1 is unchanged.
    pub layout1-same : at.layout t ≡ 1 → without_edges t ≡ t
    layout1-same one = same.layout1-same t byte k one

    -- Settings, counts, the fields of every record and the leaf bytes are the same.
    pub layout1-agrees : agree.Agree t (without_edges t)
    layout1-agrees = reads.layout1-agrees t k (leaf-small t byte)

    -- Every place has the same path, broken or not, so `byte` returns the same and the text is the same.
    pub layout1-path : (p : ℕ) → path_of (without_edges t) p ≡ path_of t p
    layout1-path = paths.path-same t (without_edges t) k layout1-agrees

    pub layout1-byte : (p : ℕ) → byte_answer (without_edges t) p ≡ byte_answer t p
    layout1-byte = paths.bytes_same t (without_edges t) k layout1-agrees r layout1-header

    pub layout1-text : text_of (without_edges t) ≡ text_of t
    layout1-text = paths.paths-text t (without_edges t) k layout1-agrees

    -- The check returns what it returns for the tree if edges are ignored: 8 for wrong links, 9 for a wrong count, else 0.
    pub layout1-checked : check_result (without_edges t) ≡ ask 8 (links_ok t) (ask 9 (counts_true (text_of t) t) 0)
    layout1-checked = exact.checked-same t (without_edges t) r layout1-header layout1-layout layout1-agrees

  -- Any tree that the check accepts.
  module _ (v : check_result t ≡ 0) where
    r : header_result t ≡ 0
    r = check-results.accepted-header t v

    -- The check accepts the result.
    pub layout1-accepted : check_result (without_edges t) ≡ 0
    layout1-accepted = agree.agree-accepted t (without_edges t) v (layout1-header r) (layout1-layout r) (layout1-agrees r)

    -- The result represents the tree's text, and no other.
    pub layout1-represents : Represents (without_edges t) (text_of t)
    layout1-represents = rw (layout1-text r) at (accepted-represents (without_edges t) layout1-accepted)

    pub layout1-only : (T : List ℕ) → fits T (without_edges t) ≡ true → T ≡ text_of t
    layout1-only T f = one-text (without_edges t) (layout1-header r) (check-results.accepted-links (without_edges t) layout1-accepted) T f ∙ layout1-text r

-- The size: header, words of every record, leaf bytes. A tree of layout 2 is larger by two edges of the leaf length for each block.
module _ (t : List ℕ) (r : header_result t ≡ 0) where
  abbrev blocks : ℕ
  blocks = sum_below (at.settings t).levels (at.level_count t)

  pub layout1-length : length (without_edges t)
      ≡ header_length + blocks * field_bytes (at.counted_count t) + at.leaf_count t
  layout1-length = sizes.layout1-length t (header-facts t r) ∙ rw (sizes.offset_is t (at.settings t).levels, ← sizes.size_is t)

  pub layout1-shorter : length (without_edges t) ≤ length t
  layout1-shorter = sizes.layout1-shorter t (header-facts t r)

  pub layout1-saves : at.layout t ≡ 2 → length t ≡ length (without_edges t) + blocks * ((at.settings t).leaf + (at.settings t).leaf)
  layout1-saves two =
      let k = header-facts t r in
      let m = (at.settings t).leaf in
      let F = field_bytes (at.counted_count t) in
      rw (k.size, k.leaf-at, size-edged t k two, layout1-length) (omega (arith, mul-add blocks F (m + m)))

-- A built tree without its edges is the block tree of its text in layout 1.
module _ (S : Settings) (T : List ℕ) (h : Taken S T) where
  pub built-layout1 : without_edges (tree_of S T) ≡ tree_in edgeless_layout S T
  built-layout1 = built.built-layout1 S T h

  pub built-layout1-length : length (tree_in edgeless_layout S T)
      ≡ header_length + sum_below S.levels (λ l. length (starts_at S T l)) * field_bytes (length S.counted) + length (leaf_bytes S T)
  built-layout1-length =
      ap length (sym built-layout1) ∙ layout1-length (tree_of S T) (built-header S T h)
      ∙ rw (levels, counts, back.read-counted_count S T h, back.read-leaf_count S T h)
    where
      levels : (at.settings (tree_of S T)).levels ≡ S.levels
      levels = ap (λ (s : Settings). s.levels) (back.read-settings S T h)

      counts : sum_below S.levels (at.level_count (tree_of S T)) ≡ sum_below S.levels (λ l. length (starts_at S T l))
      counts = sum_below-ext S.levels _ _ (λ l e. back.read-level_count S T h l e)
