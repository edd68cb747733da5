-- A tree read by its bytes alone: the path of a place, the walk of a short span, the tree's text, and the check.
-- docs/FORMAT.md: "The text that a tree represents", "The path of a place", "The walk of a short span", "The questions".
use Rattle.std.specs.Prelude.{List, [], ◌∷◌, ◌++◌, Bool, true, false, cond, ◌&&◌, ◌||◌, not, ℕ, zero, suc, ◌+◌, ◌-◌, ◌/◌, ◌%◌, ◌*◌, ltb, leb, eqb, get_or}
use Rattle.std.proofs.Math.Option.{Option, none, some}
use Rattle.format.specs.Layout as at
use Rattle.text.specs.Text.{substring, count_in, tabulate, all_below, sum_below, same_list}
use Rattle.format.specs.Layout.{pieces, edges_of}

-- The path of a place: the blocks that lead from level 0 to its leaf byte, read from the bytes of a tree alone.
-- docs/FORMAT.md: "The path of a place".

-- A block entered, and the place in it.
pub record Visit : Type 0 where
  pub level : ℕ
  pub block : ℕ
  pub place : ℕ

-- A path: the blocks entered, first to last, and the number of the leaf byte at its end.
pub record Path : Type 0 where
  pub visits : List Visit
  pub leaf : ℕ

-- A visit of block i of level l at place o.
abbrev pub visit : ℕ → ℕ → ℕ → Visit
visit l i o = record { level = l; block = i; place = o }

-- The path with visits prepended.
abbrev pub entered : List Visit → Option Path → Option Path
entered vs none = none
entered vs (some p) = some (record { visits = vs ++ p.visits; leaf = p.leaf })

-- The path if the test holds, else none.
abbrev pub provided : {A : Type 0} → Bool → Option A → Option A
provided true p = p
provided false p = none

module _ (t : List ℕ) where
  -- Whether block i of level l exists and is kept.
  unfoldable pub is_kept_block : ℕ → ℕ → Bool
  is_kept_block l i = ltb i (at.level_count t l) && at.is_kept t l i

  -- Whether block i of level l exists and points with a gap below the block length b.
  unfoldable pub pointing_block : ℕ → ℕ → Bool
  pointing_block l i = ltb i (at.level_count t l) && at.is_pointing t l i && ltb (at.gap t l i) (at.full_length t l)

  -- The block that place o of a pointing block refers to: the linked one if gap + o is below b, else the next one.
  unfoldable pub target_block : ℕ → ℕ → ℕ → ℕ
  target_block l i o = cond (ltb (at.gap t l i + o) (at.full_length t l)) (at.link t l i) (at.link t l i + 1)

  -- The place in that block: gap + o, or gap + o - b.
  unfoldable pub target_place : ℕ → ℕ → ℕ → ℕ
  target_place l i o = cond (ltb (at.gap t l i + o) (at.full_length t l)) (at.gap t l i + o) (at.gap t l i + o - at.full_length t l)

  -- The kept block of level l that contains the bytes of place o of block i: i itself, or its target.
  unfoldable pub resolved_block : ℕ → ℕ → ℕ → ℕ
  resolved_block l i o = cond (is_kept_block l i) i (target_block l i o)

  -- The place in that kept block.
  unfoldable pub resolved_place : ℕ → ℕ → ℕ → ℕ
  resolved_place l i o = cond (is_kept_block l i) o (target_place l i o)

  -- The visits that lead to that kept block.
  unfoldable pub resolved_visits : ℕ → ℕ → ℕ → List Visit
  resolved_visits l i o = cond (is_kept_block l i) (visit l i o ∷ []) (visit l i o ∷ visit l (target_block l i o) (target_place l i o) ∷ [])

  -- Whether that kept block exists: i is kept, or i points and its target is kept.
  unfoldable pub resolves : ℕ → ℕ → ℕ → Bool
  resolves l i o = is_kept_block l i || (pointing_block l i && is_kept_block l (target_block l i o))

  -- The path from place o of block i of level l, with `below` levels under it. There is none if it leaves the tables, meets a kind above 1, a pointing block
  -- after a pointing one or on the last level, or a gap that is not below the block length.
  unfoldable pub path_from : ℕ → ℕ → ℕ → ℕ → Option Path
  path_from zero l i o =
      provided (is_kept_block l i && ltb (at.link t l i + o) (at.leaf_count t))
      (some (record { visits = visit l i o ∷ []; leaf = at.link t l i + o }))
  path_from (suc below) l i o =
      let j = resolved_block l i o in
      let p = resolved_place l i o in
      let child = at.full_length t (l + 1) in
      provided (resolves l i o) (entered (resolved_visits l i o) (path_from below (l + 1) (at.link t l j + p / child) (p % child)))

  -- The path of place p of the text.
  unfoldable pub path_of : ℕ → Option Path
  path_of p = path_from ((at.settings t).levels - 1) 0 (p / at.full_length t 0) (p % at.full_length t 0)

-- The walk of a short span of a layout 2 tree: it descends while one block contains the span, and takes the bytes at a border from two edges.
-- docs/FORMAT.md: "The walk of a short span".

-- The blocks entered, first to last, and where the bytes are in the tree: `size` of them from offset `from`, the others from offset `next`.
pub record Short : Type 0 where
  pub visits : List Visit
  pub from : ℕ
  pub size : ℕ
  pub next : ℕ

-- The walk with visits prepended.
abbrev pub led : List Visit → Option Short → Option Short
led vs none = none
led vs (some s) = some (record { visits = vs ++ s.visits; from = s.from; size = s.size; next = s.next })

module _ (t : List ℕ) where
  -- The bytes from place o of block i of level l that extend past its end: those up to the end of a full block from its last edge, the others from the first
  -- edge of the next block. Both blocks count as entered; their kinds are not read.
  unfoldable pub by_edges : ℕ → ℕ → ℕ → Option Short
  by_edges l i o =
      let left = at.full_length t l - o in
      let m = (at.settings t).leaf in
      provided (ltb (i + 1) (at.level_count t l))
      (some (record {
        visits = visit l i o ∷ visit l (i + 1) 0 ∷ [];
        from = at.edges_at t l i + (m + m - left);
        size = left;
        next = at.edges_at t l (i + 1);
      }))

  -- The len bytes from place o of block i of the last level, if all of them are leaf bytes of a kept block.
  unfoldable pub in_one_leaf : ℕ → ℕ → ℕ → ℕ → Option Short
  in_one_leaf l i o len =
      provided (is_kept_block t l i && leb (at.link t l i + o + len) (at.leaf_count t))
      (some (record { visits = visit l i o ∷ []; from = at.leaf_offset t + (at.link t l i + o); size = len; next = 0 }))

  -- The walk for the len bytes from place o of block i of level l, with `below` levels under it. If they all are in the block, it continues in the children
  -- of a kept block, or of the target of a pointing block; where they extend from one target block into the next, the edges of these two have them. There is
  -- none if the walk leaves the tables or meets a block that a path cannot pass.
  unfoldable pub short_from : ℕ → ℕ → ℕ → ℕ → ℕ → Option Short
  short_from zero l i o len = cond (leb (o + len) (at.full_length t l)) (in_one_leaf l i o len) (by_edges l i o)
  short_from (suc below) l i o len =
      let b = at.full_length t l in
      let j = resolved_block t l i o in
      let p = resolved_place t l i o in
      let child = at.full_length t (l + 1) in
      let down = short_from below (l + 1) (at.link t l j + p / child) (p % child) len in
      let inside = provided (resolves t l i o) (led (resolved_visits t l i o) down) in
      let between = provided (pointing_block t l i) (led (visit l i o ∷ []) (by_edges l j p)) in
      cond (leb (o + len) b) (cond (leb (p + len) b) inside between) (by_edges l i o)

  -- The walk for the len bytes from place p of the text.
  unfoldable pub short_of : ℕ → ℕ → Option Short
  short_of p len = short_from ((at.settings t).levels - 1) 0 (p / at.full_length t 0) (p % at.full_length t 0) len

  -- The bytes that a walk reads; none if there is no walk.
  abbrev pub short_bytes : ℕ → Option Short → List ℕ
  short_bytes len none = []
  short_bytes len (some s) = substring t s.from s.size ++ substring t s.next (len - s.size)

-- Questions 8 and 9: whether the blocks of a tree are linked correctly, whether a text fits a tree (the tree represents the text), and whether the counts and
-- edges are right for the text.
-- docs/FORMAT.md: "The text that a tree represents", "Question 8", "Question 9".

module _ (t : List ℕ) where
  -- The number of the last level.
  unfoldable pub last_level : ℕ
  last_level = (at.settings t).levels - 1

  -- The number of children of block i of level l, or of its leaf bytes on the last level, by its kind; 0 for a block that points.
  unfoldable pub width_at : ℕ → ℕ → ℕ
  width_at l i =
      cond (at.is_kept t l i) (cond (eqb l last_level) (at.block_length_at t l i) (pieces (at.block_length_at t l i) (at.full_length t (l + 1)))) 0

  -- A kept block links to the first child, or leaf byte, that the kept blocks before it do not use, and its children start where they must.
  unfoldable pub kept_right : ℕ → ℕ → Bool
  kept_right l i =
      eqb (at.link t l i) (sum_below i (width_at l)) && eqb (at.gap t l i) 0
      && (eqb l last_level || all_below (width_at l i) (λ j. eqb (at.start t (l + 1) (at.link t l i + j)) (at.start t l i + j * at.full_length t (l + 1))))

  -- A pointing block is above the last level and links to a kept block; its occurrence lies wholly before the block itself. Where this occurrence crosses the
  -- end of the linked block, the block after that one is kept too and adjacent in the text.
  unfoldable pub pointing_right : ℕ → ℕ → Bool
  pointing_right l i =
      let j = at.link t l i in
      let g = at.gap t l i in
      let len = at.block_length_at t l i in
      eqb (at.kind t l i) 1 && not (eqb l last_level) && ltb g (at.full_length t l)
      && (ltb j (at.level_count t l) && at.is_kept t l j && leb (at.start t l j + g + len) (at.start t l i))
      && (leb (g + len) (at.full_length t l)
      || (ltb (j + 1) (at.level_count t l) && at.is_kept t l (j + 1) && eqb (at.start t l (j + 1)) (at.start t l j + at.full_length t l)))

  -- Block i of level l is linked correctly, by its kind.
  unfoldable pub block_right : ℕ → ℕ → Bool
  block_right l i = cond (at.is_kept t l i) (kept_right l i) (pointing_right l i)

  -- The level below, or the leaf bytes below the last level, has as many items as the kinds of level l require.
  unfoldable pub count_below_right : ℕ → Bool
  count_below_right l =
      eqb (sum_below (at.level_count t l) (width_at l)) (cond (eqb l last_level) (at.leaf_count t) (at.level_count t (l + 1)))

  -- Question 8: the blocks of level 0 start where they must, and on each level all blocks are linked correctly.
  unfoldable pub links_ok : Bool
  links_ok =
      all_below (at.level_count t 0) (λ i. eqb (at.start t 0 i) (i * at.full_length t 0))
      && all_below (at.settings t).levels (λ l. count_below_right l && all_below (at.level_count t l) (block_right l))

  -- The byte at the end of a path; 0 if there is no path.
  abbrev pub leaf_of : Option Path → ℕ
  leaf_of none = 0
  leaf_of (some p) = at.leaf_byte t p.leaf

  -- The text of a tree: at each place the byte at the end of its path.
  unfoldable pub text_of : List ℕ
  text_of = tabulate (at.text_length t) (λ p. leaf_of (path_of t p))

module _ (T t : List ℕ) where
  -- The start of the parent of a block of level l that starts at s; the text's on level 0. In every tree that passes questions 5 to 8 the parent of a
  -- block that starts at s starts at s / b × b, b being the block length of the parent's level: `parent-start` of crate `theory_paths`
  -- (specs/BlockStarts.antt).
  abbrev parent_start : ℕ → ℕ → ℕ
  parent_start l s = elim l [ zero ↦ 0 | suc above ↦ s / at.full_length t above * at.full_length t above ]

  -- The three counts of counted byte number c in block i are those of the text.
  unfoldable pub block_counts_true : ℕ → ℕ → ℕ → Bool
  block_counts_true l i c =
      let byte = get_or (at.settings t).counted c 0 in
      let s = at.start t l i in
      let up = parent_start l s in
      eqb (at.before t l i c) (count_in byte (substring T up (s - up)))
      && eqb (at.inside t l i c) (count_in byte (substring T s (at.block_length_at t l i)))
      && eqb (at.skip t l i c) (cond (at.is_kept t l i) 0 (count_in byte (substring T (at.start t l (at.link t l i)) (at.gap t l i))))

  -- All counts are those of the text.
  unfoldable pub counts_true : Bool
  counts_true =
      all_below (at.settings t).levels (λ l.
      all_below (at.level_count t l) (λ i. all_below (at.counted_count t) (block_counts_true l i)))

  -- The edges of block i are those of its bytes in the text.
  unfoldable pub block_edges_true : ℕ → ℕ → Bool
  block_edges_true l i =
      let m = (at.settings t).leaf in
      same_list (substring t (at.edges_at t l i) (m + m)) (edges_of m (substring T (at.start t l i) (at.block_length_at t l i)))

  -- All edges are those of the text; a layout 1 tree has none.
  unfoldable pub edges_true : Bool
  edges_true =
      not (at.has_edges t) || all_below (at.settings t).levels (λ l. all_below (at.level_count t l) (block_edges_true l))

-- The result of the check: 0 for a valid tree, else the number of the first question that fails.
-- docs/FORMAT.md: "Questions and refusals".

-- The number of a question if it fails, else the result of the next ones.
abbrev pub ask : ℕ → Bool → ℕ → ℕ
ask number true rest = rest
ask number false rest = number

-- Questions in order, each with its number: the number of the first that fails, else 0.
abbrev pub asks : List (ℕ × Bool) → ℕ
asks [] = 0
asks (q ∷ qs) = ask q.0 q.1 (asks qs)

-- The refusal of some questions, or, if they pass, that of the next ones.
abbrev pub or_next : ℕ → ℕ → ℕ
or_next number next = cond (eqb number 0) next number

-- Questions 5 to 7, which every call on a tree tests first.
unfoldable pub header_result : List ℕ → ℕ
header_result t = asks ((5, at.holds_header t) ∷ (6, at.layout_ok t) ∷ (7, at.is_header_ok t) ∷ [])

-- Questions 5 to 9, in order: what check returns.
unfoldable pub check_result : List ℕ → ℕ
check_result t = asks ((5, at.holds_header t) ∷ (6, at.layout_ok t) ∷ (7, at.is_header_ok t) ∷ (8, links_ok t) ∷
    (9, counts_true (text_of t) t && edges_true (text_of t) t) ∷ [])
