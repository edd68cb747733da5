-- The bytes of the built tree, part by part: six words, the counted bytes, the words for the levels, the records, the leaf bytes.
use mathlib.Core.List.{List, [], ◌∷◌, ◌++◌, append_assoc}
use Rattle.std.specs.Prelude.{◌≡◌, ℕ, ◌+◌, ◌-◌, ◌*◌, ◌<◌, get_or, replicate, take, drop}
use Rattle.std.proofs.Math.Path.{refl, sym, ap}
use Rattle.std.proofs.Common.{◌∙◌, length-append, get_or-append-add, take_at, drop_at}
use native.Mathlib.Omega.{arith}
use Rattle.std.proofs.Math.ListN.{length, get_or-append}
use Rattle.std.proofs.lemmas.List.{length-replicate}
use Rattle.format.specs.Layout.{word_at, words_bytes, Settings, max_levels, max_counted, counted_at, pairs_at, header_length}
use Rattle.format.specs.Blocks.{tree_of, header, leaf_bytes, level_pairs, built_layout}
use Rattle.format.specs.WordLaws.{length-words}
use Rattle.format.proofs.WordTheorems.{word-at}
use Rattle.theory_built.specs.Pairs.{level_words_of, offset, length-level_words_of}
use Rattle.theory_built.specs.BuiltRecords.{records, length-records}
use Rattle.theory_built.specs.BlockSizes.{Taken, BuiltBounds, bounds}

built-parts : (a c w r l : List ℕ) → a ++ c ++ w ++ r ++ l ≡ a ++ (c ++ (w ++ (r ++ l)))
built-parts a c w r l = simp append_assoc

module _ (S : Settings) (T : List ℕ) where
  unfoldable pub six_words : List ℕ
  six_words = built_layout ∷ length T ∷ S.leaf ∷ S.arity ∷ S.levels ∷ length S.counted ∷ []

  unfoldable pub counted_places : List ℕ
  counted_places = S.counted ++ replicate (max_counted - length S.counted) 0

  pub tree_is : tree_of S T ≡ words_bytes six_words ++ (counted_places ++ (words_bytes (level_words_of S T) ++ (records S T ++ leaf_bytes S T)))
  unfolding tree_of header six_words counted_places level_words_of records offset
  tree_is =
      built-parts (words_bytes six_words) counted_places _ (records S T) (leaf_bytes S T)
      ∙ ap (λ (w : List ℕ). words_bytes six_words ++ (counted_places ++ (words_bytes w ++ (records S T ++ leaf_bytes S T))))
      (append_assoc (level_pairs S T S.levels 0 header_length)
      (replicate (2 * max_levels - 2 * S.levels) 0) (offset S T S.levels ∷ length (leaf_bytes S T) ∷ []))

  pub length-six : length (words_bytes six_words) ≡ counted_at
  unfolding six_words
  length-six = length-words six_words

  module _ (h : Taken S T) where
    limits : BuiltBounds S T
    limits = bounds S T h

    pub length-places : length counted_places ≡ max_counted
    unfolding counted_places
    length-places = rw (length-append, length-replicate) (omega (arith, limits.counted_high))

    length-level-words : length (words_bytes (level_words_of S T)) ≡ header_length - pairs_at
    length-level-words = length-words (level_words_of S T) ∙ ap (λ (x : ℕ). 4 * x) (length-level_words_of S T limits.levels_high)

    -- The bytes before the words for the levels.
    unfoldable pub head : List ℕ
    head = words_bytes six_words ++ counted_places

    pub length-head : length head ≡ pairs_at
    unfolding head
    length-head = rw (length-append, length-six, length-places)

    pub tree-levels : tree_of S T ≡ head ++ (words_bytes (level_words_of S T) ++ (records S T ++ leaf_bytes S T))
    unfolding head
    tree-levels = tree_is ∙ sym (append_assoc (words_bytes six_words) counted_places _)

    pub tree-records : tree_of S T ≡ (head ++ words_bytes (level_words_of S T)) ++ (records S T ++ leaf_bytes S T)
    tree-records = tree-levels ∙ sym (append_assoc head (words_bytes (level_words_of S T)) _)

    tree-leaves : tree_of S T ≡ ((head ++ words_bytes (level_words_of S T)) ++ records S T) ++ leaf_bytes S T
    tree-leaves = tree-records ∙ sym (append_assoc (head ++ words_bytes (level_words_of S T)) (records S T) (leaf_bytes S T))

    pub length-header : length (head ++ words_bytes (level_words_of S T)) ≡ header_length
    length-header = rw (length-append, length-head, length-level-words)

    length-before-leaves : length ((head ++ words_bytes (level_words_of S T)) ++ records S T) ≡ header_length + length (records S T)
    length-before-leaves = rw (length-append (head ++ words_bytes (level_words_of S T)), length-header)

    -- The offset of each part.

    pub six-word : (j : ℕ) → j < 6 → get_or six_words j 0 < 4294967296 → word_at (tree_of S T) (4 * j) ≡ get_or six_words j 0
    unfolding six_words
    six-word j l small =
        let e : 4 * j ≡ 0 + 4 * j = omega arith in
        rw (tree_is, e) (word-at [] six_words (counted_places ++ (words_bytes (level_words_of S T) ++ (records S T ++ leaf_bytes S T))) 0 j refl l small)

    pub counted-places : take max_counted (drop counted_at (tree_of S T)) ≡ counted_places
    counted-places =
        rw tree_is (ap (λ (x : List ℕ). take max_counted x) (drop_at (words_bytes six_words) _ counted_at length-six)
        ∙ take_at counted_places _ max_counted length-places)

    pub counted-place : (x : ℕ)
        → get_or (tree_of S T) (counted_at + x) 0 ≡ get_or (counted_places ++ (words_bytes (level_words_of S T) ++ (records S T ++ leaf_bytes S T))) x 0
    counted-place x =
        rw (tree_is, ← length-six)
        (get_or-append-add (words_bytes six_words) (counted_places ++ (words_bytes (level_words_of S T) ++ (records S T ++ leaf_bytes S T))) x 0)

    pub level-word : (j : ℕ) → j < 2 * max_levels + 2
        → get_or (level_words_of S T) j 0 < 4294967296 → word_at (tree_of S T) (pairs_at + 4 * j) ≡ get_or (level_words_of S T) j 0
    level-word j l small =
        rw tree-levels (word-at head
        (level_words_of S T) (records S T ++ leaf_bytes S T) pairs_at j length-head (rw (length-level_words_of S T limits.levels_high) l) small)

    pub record-byte-at : (x : ℕ) → x < length (records S T) → get_or (tree_of S T) (header_length + x) 0 ≡ get_or (records S T) x 0
    record-byte-at x l =
        rw (tree-records, ← length-header)
        (get_or-append-add (head ++ words_bytes (level_words_of S T)) (records S T ++ leaf_bytes S T) x 0 ∙ get_or-append (records S T) (leaf_bytes S T) 0 x l)

    offset-end : offset S T S.levels ≡ header_length + length (records S T)
    unfolding offset
    offset-end = rw (length-records S T)

    pub leaf-place : (x : ℕ) → get_or (tree_of S T) (offset S T S.levels + x) 0 ≡ get_or (leaf_bytes S T) x 0
    leaf-place x =
        rw (offset-end, tree-leaves, ← length-before-leaves)
        (get_or-append-add ((head ++ words_bytes (level_words_of S T)) ++ records S T) (leaf_bytes S T) x 0)

    pub tree-length : length (tree_of S T) ≡ offset S T S.levels + length (leaf_bytes S T)
    tree-length =
        rw (offset-end, tree-leaves)
        (length-append ((head ++ words_bytes (level_words_of S T)) ++ records S T) (leaf_bytes S T)
        ∙ ap (λ (x : ℕ). x + length (leaf_bytes S T)) length-before-leaves)
