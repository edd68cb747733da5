-- The block tree of a text: its blocks, level by level, and its bytes.
-- docs/FORMAT.md: "Blocks", "Layout".
use Rattle.std.specs.Prelude.{List, [], ◌∷◌, ◌++◌, map, Bool, cond, not, ◌&&◌, ◌||◌, ℕ, zero, suc, ◌+◌, ◌-◌, ◌*◌, ◌/◌, min, length, get_or, replicate, ltb, leb, eqb}
use Rattle.text.specs.Text.{tabulate, concat, sum_below, count_below, substring, leftmost, count_in}
use Rattle.format.specs.Layout.{words_bytes, plain_fields, count_fields, Settings, max_counted, max_levels, block_length, pieces, record_length, header_length}
use Rattle.format.specs.Layout.{edges_of}

-- The blocks of one level above the last: b bytes each, at the places `starts`.
module _ (T : List ℕ) (b : ℕ) (starts : List ℕ) where
  -- The start of block i.
  unfoldable pub start_of : ℕ → ℕ
  start_of i = get_or starts i 0

  -- The length of block i: b bytes, or fewer if the text ends before.
  unfoldable pub length_of : ℕ → ℕ
  length_of i = min b (length T - start_of i)

  -- Blocks i and i + 1 are a pair: neighbours in the list and in the text.
  unfoldable pub pair_at : ℕ → Bool
  pair_at i = ltb (suc i) (length starts) && eqb (start_of (suc i)) (start_of i + b)

  -- Blocks i and i + 1 are a pair whose bytes occur at no earlier place.
  unfoldable pub first_pair_at : ℕ → Bool
  first_pair_at i = pair_at i && eqb (leftmost T (start_of i) (min (b + b) (length T - start_of i))) (start_of i)

  -- Block i is kept (marked, in the literature): it is in a pair that first occurs here, or in no pair.
  unfoldable pub kept_by_pairs : ℕ → Bool
  kept_by_pairs zero = first_pair_at 0 || not (pair_at 0)
  kept_by_pairs (suc h) = (first_pair_at h || first_pair_at (suc h)) || (not (pair_at h) && not (pair_at (suc h)))

-- The starts of the blocks of b bytes that the len bytes from s are divided into.
unfoldable pub cut : ℕ → ℕ → ℕ → List ℕ
cut s len b = tabulate (pieces len b) (λ j. s + j * b)

-- The starts of the blocks of level l. Level 0 divides the text, each further level the kept blocks of the level above.
unfoldable pub starts_at : Settings → List ℕ → ℕ → List ℕ
starts_at S T zero = cut 0 (length T) (block_length S 0)
starts_at S T (suc l) =
    let above = starts_at S T l in
    let b = block_length S l in
    concat (tabulate (length above) (λ i.
    cond (kept_by_pairs T b above i) (cut (start_of T b above i) (length_of T b above i) (block_length S (suc l))) []))

-- One level of the tree of T, whose blocks start at `starts`.
module _ (S : Settings) (T : List ℕ) (l : ℕ) (starts : List ℕ) where
  abbrev b : ℕ
  b = block_length S l

  abbrev is_last : Bool
  is_last = eqb (suc l) S.levels

  -- Whether block i is kept; on the last level all blocks are.
  unfoldable pub is_kept : ℕ → Bool
  is_kept i = is_last || kept_by_pairs T b starts i

  -- The number of children of block i, or of its leaf bytes on the last level; 0 for a block that points.
  unfoldable pub width : ℕ → ℕ
  width i =
      cond (is_kept i) (cond is_last (length_of T b starts i) (pieces (length_of T b starts i) (block_length S (suc l)))) 0

  -- The place where the bytes of a pointing block first occur.
  unfoldable pub occurrence : ℕ → ℕ
  occurrence i = leftmost T (start_of T b starts i) (length_of T b starts i)

  -- The number of the block that contains that place: the last one that starts at or before it.
  unfoldable pub target : ℕ → ℕ
  target i = count_below (length starts) (λ j. leb (start_of T b starts j) (occurrence i)) - 1

  -- The start of the parent of a block that starts at s; the text's on level 0. That this is the parent's start is proved: `parent-start` of crate
  -- `theory_built`
  -- (specs/Parents.antt).
  abbrev parent_start : ℕ → ℕ
  parent_start s = elim l [ zero ↦ 0 | suc above ↦ s / block_length S above * block_length S above ]

  abbrev counts_of : ℕ → ℕ → List ℕ
  counts_of i c =
      let s = start_of T b starts i in
      let up = parent_start s in
      let from = start_of T b starts (target i) in
      count_fields (count_in c (substring T up (s - up))) (count_in c (substring T s (length_of T b starts i)))
      (cond (is_kept i) 0 (count_in c (substring T from (occurrence i - from))))

  -- The words of the record of block i.
  unfoldable pub record_of : ℕ → List ℕ
  record_of i =
      let s = start_of T b starts i in
      let kept = plain_fields s 0 (sum_below i width) 0 in
      let points = plain_fields s 1 (target i) (occurrence i - start_of T b starts (target i)) in
      cond (is_kept i) kept points ++ concat (map (counts_of i) S.counted)

  -- The bytes of the record of block i: its words, then its edges.
  unfoldable pub record_in : ℕ → List ℕ
  record_in i = words_bytes (record_of i) ++ edges_of S.leaf (substring T (start_of T b starts i) (length_of T b starts i))

  -- The records of the level.
  unfoldable pub level_bytes : List ℕ
  level_bytes = concat (tabulate (length starts) record_in)

-- The layout that the builders write.
abbrev pub built_layout : ℕ
built_layout = 2

-- The number of bytes of a record.
unfoldable pub record_bytes : Settings → ℕ
record_bytes S = record_length built_layout S.leaf (length S.counted)

-- The header's two words for each of `more` levels from l on: block count and offset.
unfoldable pub level_pairs : Settings → List ℕ → ℕ → ℕ → ℕ → List ℕ
level_pairs S T zero l at = []
level_pairs S T (suc more) l at =
    let count = length (starts_at S T l) in
    count ∷ at ∷ level_pairs S T more (suc l) (at + count * record_bytes S)

-- The leaf bytes: the bytes of the blocks of the last level.
unfoldable pub leaf_bytes : Settings → List ℕ → List ℕ
leaf_bytes S T =
    let last = starts_at S T (S.levels - 1) in
    concat (map (λ s. substring T s (min S.leaf (length T - s))) last)

-- The header.
unfoldable pub header : Settings → List ℕ → List ℕ
header S T =
    let H = S.levels in
    let k = length S.counted in
    let leaves = header_length + sum_below H (λ l. length (starts_at S T l)) * record_bytes S in
    words_bytes (built_layout ∷ length T ∷ S.leaf ∷ S.arity ∷ H ∷ k ∷ [])
    ++ (S.counted ++ replicate (max_counted - k) 0)
    ++ words_bytes (level_pairs S T H 0 header_length ++ replicate (2 * max_levels - 2 * H) 0 ++ leaves ∷ length (leaf_bytes S T) ∷ [])

-- The block tree of T: header, records level by level, leaf bytes.
unfoldable pub tree_of : Settings → List ℕ → List ℕ
tree_of S T =
    header S T ++ concat (tabulate S.levels (λ l. level_bytes S T l (starts_at S T l))) ++ leaf_bytes S T
