-- Question 9 of the edges, as the check decides it: the edges of a full kept block above the last level are compared with those of its
-- children, the edges of every other block with what the short span's walk gives from that block.
use Rattle.std.specs.Prelude.{List, Bool, false, cond, not, ◌&&◌, ◌||◌, ℕ, ◌+◌, ◌-◌, min, replicate, ltb, eqb}
use Rattle.std.proofs.Math.Option.{Option, none, some}
use Rattle.text.specs.Text.{all_below, same_list, substring}
use Rattle.format.specs.Layout as at
use Rattle.format.specs.TreeReading.{Short, short_from}

module _ (t : List ℕ) where
  -- The m bytes at a are the x bytes that were found, and then zeros.
  abbrev pub edge_is : ℕ → ℕ → Option Short → Bool
  edge_is a x none = false
  edge_is a x (some q) =
      same_list (substring t a q.size) (substring t q.from q.size)
      && same_list (substring t (a + q.size) (x - q.size)) (substring t q.next (x - q.size))
      && same_list (substring t (a + x) ((at.settings t).leaf - x)) (replicate ((at.settings t).leaf - x) 0)

  -- The bytes of an edge of block i of level l that are its own.
  unfoldable pub own_bytes : ℕ → ℕ → ℕ
  own_bytes l i = min (at.settings t).leaf (at.block_length_at t l i)

  -- Both edges against the walk from the block.
  unfoldable pub walked_edges : ℕ → ℕ → Bool
  walked_edges l i =
      let x = own_bytes l i in
      let below = (at.settings t).levels - 1 - l in
      edge_is (at.edges_at t l i) x (short_from t below l i 0 x)
      && edge_is (at.edges_at t l i + (at.settings t).leaf) x (short_from t below l i (at.block_length_at t l i - x) x)

  -- The first edge is that of the first child, the last edge that of the last of r children.
  unfoldable pub child_edges : ℕ → ℕ → Bool
  child_edges l i =
      let m = (at.settings t).leaf in
      let first = at.link t l i in
      same_list (substring t (at.edges_at t l i) m) (substring t (at.edges_at t (l + 1) first) m)
      && same_list (substring t (at.edges_at t l i + m) m) (substring t (at.edges_at t (l + 1) (first + ((at.settings t).arity - 1)) + m) m)

  -- A kept block above the last level that the text's end does not cut.
  unfoldable pub has_full_children : ℕ → ℕ → Bool
  has_full_children l i = ltb (l + 1) (at.settings t).levels && at.is_kept t l i && eqb (at.block_length_at t l i) (at.full_length t l)

  unfoldable pub edges_local : ℕ → ℕ → Bool
  edges_local l i = cond (has_full_children l i) (child_edges l i) (walked_edges l i)

  unfoldable pub level_edges : ℕ → Bool
  level_edges l = all_below (at.level_count t l) (edges_local l)

  unfoldable pub all_edges_of : Bool
  all_edges_of = not (at.has_edges t) || all_below (at.settings t).levels level_edges
