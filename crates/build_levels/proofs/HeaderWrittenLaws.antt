-- The header, part by part.
use mathlib.Core.List.{List, []}
use mathlib.Core.Path.{◌≡◌, refl, sym, ap, ◌∙◌}
use Prim.Native.Nat.{ℕ, zero, suc, ◌+◌, ◌-◌, ◌*◌, ◌≤◌, ◌<◌}
use native.Mathlib.Omega.{arith}
use lib.ListN.{length, get_or, replicate, get_or-replicate, get_or-append}
use lib.Seq.{get_or-append-add}
use Rattle.format.specs.Layout.{set_word, Settings, max_levels, max_counted}
use Rattle.format.specs.WordLaws.{put_three}
use Rattle.format.specs.Layout.{layout_at, arity_at, counted_at, pairs_at, count_at, offset_at, leaf_offset_at, leaf_count_at, header_length}
use Rattle.format.specs.Blocks.{tree_of, leaf_bytes, built_layout}
use Rattle.theory_built.specs.BuiltBytes.{BytesAt, six-bytes, counted-byte-is, level-bytes}
use Rattle.theory_built.specs.BlockSizes.{Taken, BuiltBounds, bounds}
use Rattle.theory_built.specs.Structure.{count}
use Rattle.theory_built.specs.Pairs.{offset, word_count, word-offset, word_none, word-leaf-offset, word-leaf-count}
use Rattle.theory_built.specs.Shape.{six_words, counted_places, tree-length}
use Rattle.build_records.specs.WritesOnlyTree.{WritesOnlyTree, AgreesOn}
use Rattle.byte_slices.specs.ByteSlices.{bytes_written}
use Rattle.build_levels.specs.Head.{places, pair_written, unused_written}
use Rattle.build_records.proofs.WritesOnlyTreeLaws.{bytes-only-tree, bytes-within, only-tree-refl, only-tree-trans, agrees-only-tree, within-part, within-join}
use Rattle.build_records.proofs.WritesOnlyTreeLaws.{within_none}
use Rattle.build_records.proofs.WritesOnlyTreeLaws.{word-only-tree, word-within, three-only-tree, three-within}
use Rattle.build_records.proofs.StateLaws.{offset-low}

-- Places for counted bytes.

place-used : (cs : List ℕ) (x : ℕ) → x < length cs → get_or cs x 0 ≡ get_or (places cs) x 0
place-used cs x l = sym (get_or-append cs (replicate (max_counted - length cs) 0) 0 x l)

place-unused : (cs : List ℕ) (x : ℕ) → length cs ≤ x → x < max_counted → 0 ≡ get_or (places cs) x 0
place-unused cs x l m =
    let e : x ≡ length cs + (x - length cs) = omega arith in
    rw e (sym (get_or-append-add cs (replicate (max_counted - length cs) 0) (x - length cs) 0
    ∙ get_or-replicate (max_counted - length cs) (x - length cs) 0 0 (omega arith)))

module _ (t cs : List ℕ) where
  used-written : (j : ℕ) → j ≤ length cs → bytes_written t counted_at cs 0 j ≡ bytes_written t counted_at (places cs) 0 j
  used-written zero l = refl
  used-written (suc j) l =
      let z : 0 + j ≡ j = omega arith in
      rw (used-written j (omega arith), z, place-used cs j (omega arith))

  unused-written : (n j : ℕ) → length cs ≤ n → n + j ≤ max_counted
      → bytes_written (bytes_written t counted_at (places cs) 0 n) (counted_at + n) [] 0 j ≡ bytes_written t counted_at (places cs) 0 (n + j)
  unused-written n zero k l = let z : n + 0 ≡ n = omega arith in rw z
  unused-written n (suc j) k l =
      let z : n + suc j ≡ suc (n + j) = omega arith in
      let place : counted_at + n + j ≡ counted_at + (n + j) = omega arith in
      let from : 0 + (n + j) ≡ n + j = omega arith in
      rw (z, unused-written n j k (omega arith), place, from, ← place-unused cs (n + j) (omega arith) (omega arith))

  -- The counted bytes are written, then zeros.
  pub places-written : length cs ≤ max_counted
      → bytes_written (bytes_written t counted_at cs 0 (length cs)) (counted_at + length cs) [] 0 (max_counted - length cs)
      ≡ bytes_written t counted_at (places cs) 0 max_counted
  places-written few =
      let all : length cs + (max_counted - length cs) ≡ max_counted = omega arith in
      rw (used-written (length cs) (omega arith), unused-written (length cs) (max_counted - length cs) (omega arith) (omega arith), all)

-- Two words.

pub pair-written : (t u v : List ℕ) (x a b : ℕ) → u ≡ set_word t (count_at x) a → v ≡ set_word u (offset_at x) b → v ≡ pair_written t x a b
pair-written t u v x a b e f = f ∙ rw e

module _ (D t : List ℕ) (x a b : ℕ)
    (fits : count_at (x + 1) ≤ length t) (inside : count_at (x + 1) ≤ length D) (s : BytesAt D (count_at x) a) (s' : BytesAt D (offset_at x) b) where
  first : WritesOnlyTree D t (set_word t (count_at x) a)
  first = word-only-tree D t (count_at x) a (omega arith) s (omega arith)

  second : WritesOnlyTree D (set_word t (count_at x) a) (pair_written t x a b)
  second = word-only-tree D (set_word t (count_at x) a) (offset_at x) b (omega (arith, first.same_length)) s' (omega arith)

  pub pair-only-tree : WritesOnlyTree D t (pair_written t x a b)
  pair-only-tree = only-tree-trans D t (set_word t (count_at x) a) (pair_written t x a b) first second

  pair-within : AgreesOn D (pair_written t x a b) (count_at x) (count_at (x + 1))
  pair-within =
      within-join D (pair_written t x a b) (count_at x) (offset_at x) (count_at (x + 1))
      (within-part D (pair_written t x a b) (count_at x) (count_at x + 4) (count_at x) (offset_at x)
      (agrees-only-tree D (set_word t (count_at x) a)
      (pair_written t x a b) (count_at x) (count_at x + 4) second (word-within D t (count_at x) a (omega arith) s)) (omega arith) (omega arith))
      (within-part D (pair_written t x a b) (offset_at x) (offset_at x + 4) (offset_at x) (count_at (x + 1))
      (word-within D (set_word t (count_at x) a) (offset_at x) b (omega (arith, first.same_length)) s') (omega arith) (omega arith))

module _ (S : Settings) (T : List ℕ) (h : Taken S T) where
  abbrev D : List ℕ
  D = tree_of S T

  limits : BuiltBounds S T
  limits = bounds S T h

  long : header_length ≤ length D
  long = omega (arith, tree-length S T h, offset-low S T S.levels)

  -- The header up to the levels' words.
  module _ (t u v w : List ℕ) (fits : header_length ≤ length t) (u-is : u ≡ put_three t layout_at built_layout (length T) S.leaf)
      (v-is : v ≡ put_three u arity_at S.arity S.levels (length S.counted))
      (w-is : w ≡ bytes_written v counted_at (places S.counted) 0 max_counted) where
    g1 : WritesOnlyTree D t u
    unfolding six_words
    g1 = rw u-is (three-only-tree D t layout_at built_layout (length T) S.leaf
        (omega arith) (omega (arith, long)) (six-bytes S T h 0 (omega arith)) (six-bytes S T h 1 (omega arith)) (six-bytes S T h 2 (omega arith)))

    w1 : AgreesOn D u 0 arity_at
    unfolding six_words
    w1 = rw u-is (three-within D t layout_at built_layout (length T) S.leaf
        (omega arith) (omega (arith, long)) (six-bytes S T h 0 (omega arith)) (six-bytes S T h 1 (omega arith)) (six-bytes S T h 2 (omega arith)))

    fits-u : header_length ≤ length u
    fits-u = omega (arith, g1.same_length)

    g2 : WritesOnlyTree D u v
    unfolding six_words
    g2 = rw v-is (three-only-tree D u arity_at S.arity S.levels (length S.counted) (omega (arith, fits-u))
        (omega (arith, long)) (six-bytes S T h 3 (omega arith)) (six-bytes S T h 4 (omega arith)) (six-bytes S T h 5 (omega arith)))

    w2 : AgreesOn D v arity_at counted_at
    unfolding six_words
    w2 = rw v-is (three-within D u arity_at S.arity S.levels (length S.counted) (omega (arith, fits-u))
        (omega (arith, long)) (six-bytes S T h 3 (omega arith)) (six-bytes S T h 4 (omega arith)) (six-bytes S T h 5 (omega arith)))

    fits-v : header_length ≤ length v
    fits-v = omega (arith, fits-u, g2.same_length)

    bytes-are : (j : ℕ) → j < max_counted → get_or D (counted_at + j) 0 ≡ get_or (places S.counted) (0 + j) 0
    unfolding counted_places
    bytes-are j l = counted-byte-is S T h j l ∙ ap (λ (k : ℕ). get_or (places S.counted) k 0) (let e : j ≡ 0 + j = omega arith in e)

    g3 : WritesOnlyTree D v w
    g3 =
        rw w-is (bytes-only-tree D v (places S.counted) counted_at 0 max_counted
        (omega (arith, fits-v)) (omega (arith, long)) bytes-are max_counted (omega arith))

    w3 : AgreesOn D w counted_at pairs_at
    w3 = rw w-is (bytes-within D v (places S.counted) counted_at 0 max_counted (omega (arith, fits-v)) (omega (arith, long)) bytes-are)

    pub head-only-tree : WritesOnlyTree D t w
    head-only-tree = only-tree-trans D t u w g1 (only-tree-trans D u v w g2 g3)

    pub head-within : AgreesOn D w 0 pairs_at
    head-within =
        within-join D w 0 arity_at pairs_at (agrees-only-tree D u w 0 arity_at (only-tree-trans D u v w g2 g3) w1)
        (within-join D w arity_at counted_at pairs_at (agrees-only-tree D v w arity_at counted_at g3 w2) w3)

  -- The words of a level, and of one that is not there.
  count-bytes : (l : ℕ) → l < S.levels → BytesAt D (count_at l) (count S T l)
  count-bytes l e =
      let place : pairs_at + 4 * (2 * l) ≡ count_at l = omega arith in
      rw (word_count S T limits.levels_high l e, place) at (level-bytes S T h (2 * l) (omega (arith, limits.levels_high)))

  offset-bytes : (l : ℕ) → l < S.levels → BytesAt D (offset_at l) (offset S T l)
  offset-bytes l e =
      let place : pairs_at + 4 * suc (2 * l) ≡ offset_at l = omega arith in
      rw (word-offset S T limits.levels_high l e, place) at (level-bytes S T h (suc (2 * l)) (omega (arith, limits.levels_high)))

  no-count-bytes : (x : ℕ) → S.levels ≤ x → x < max_levels → BytesAt D (count_at x) 0
  no-count-bytes x lo hi =
      let place : pairs_at + 4 * (2 * x) ≡ count_at x = omega arith in
      rw (word_none S T limits.levels_high (2 * x) (omega arith) (omega arith), place) at (level-bytes S T h (2 * x) (omega arith))

  no-offset-bytes : (x : ℕ) → S.levels ≤ x → x < max_levels → BytesAt D (offset_at x) 0
  no-offset-bytes x lo hi =
      let place : pairs_at + 4 * suc (2 * x) ≡ offset_at x = omega arith in
      rw (word_none S T limits.levels_high (suc (2 * x)) (omega arith) (omega arith), place) at (level-bytes S T h (suc (2 * x)) (omega arith))

  module _ (t u : List ℕ) (l : ℕ) (fits : header_length ≤ length t) (e : l < S.levels) (u-is : u ≡ pair_written t l (count S T l) (offset S T l)) where
    pub level-only-tree : WritesOnlyTree D t u
    level-only-tree = rw u-is (pair-only-tree D t l (count S T l)
        (offset S T l) (omega (arith, limits.levels_high)) (omega (arith, long, limits.levels_high)) (count-bytes l e) (offset-bytes l e))

    pub level-within : AgreesOn D t 0 (count_at l) → AgreesOn D u 0 (count_at (l + 1))
    level-within before =
        within-join D u 0 (count_at l) (count_at (l + 1)) (agrees-only-tree D t u 0 (count_at l) level-only-tree before)
        (rw u-is (pair-within D t l (count S T l)
        (offset S T l) (omega (arith, limits.levels_high)) (omega (arith, long, limits.levels_high)) (count-bytes l e) (offset-bytes l e)))

  module _ (t : List ℕ) (fits : header_length ≤ length t) where
    unused-only-tree : (n : ℕ) → S.levels + n ≤ max_levels → WritesOnlyTree D t (unused_written t S.levels n)
    unused-only-tree zero k = only-tree-refl D t
    unused-only-tree (suc n) k =
        let g = unused-only-tree n (omega arith) in
        only-tree-trans D t (unused_written t S.levels n) (unused_written t S.levels (suc n)) g
        (pair-only-tree D (unused_written t S.levels n) (S.levels + n) 0 0 (omega (arith, g.same_length)) (omega (arith, long))
        (no-count-bytes (S.levels + n) (omega arith) (omega arith)) (no-offset-bytes (S.levels + n) (omega arith) (omega arith)))

    unused-within : (n : ℕ) → S.levels + n ≤ max_levels → AgreesOn D (unused_written t S.levels n) (count_at S.levels) (count_at (S.levels + n))
    unused-within zero k = within_none D t (count_at S.levels) (count_at (S.levels + 0)) (omega arith)
    unused-within (suc n) k =
        let g = unused-only-tree n (omega arith) in
        let x : ℕ = S.levels + n in
        let u : List ℕ = unused_written t S.levels n in
        let v : List ℕ = unused_written t S.levels (suc n) in
        let more : WritesOnlyTree D u v = pair-only-tree D u x 0 0 (omega (arith, g.same_length))
        (omega (arith, long)) (no-count-bytes x (omega arith) (omega arith)) (no-offset-bytes x (omega arith) (omega arith)) in
        let here : AgreesOn D v (count_at x) (count_at (x + 1)) = pair-within D u x 0 0 (omega (arith, g.same_length))
        (omega (arith, long)) (no-count-bytes x (omega arith) (omega arith)) (no-offset-bytes x (omega arith) (omega arith)) in
        let e : x + 1 ≡ S.levels + suc n = omega arith in
        rw e at (within-join D v (count_at S.levels)
        (count_at x) (count_at (x + 1)) (agrees-only-tree D u v (count_at S.levels) (count_at x) more (unused-within n (omega arith))) here)

    leaf-words : (BytesAt D leaf_offset_at (offset S T S.levels)) × (BytesAt D leaf_count_at (length (leaf_bytes S T)))
    leaf-words = (
      rw (word-leaf-offset S T limits.levels_high) at (level-bytes S T h (2 * max_levels) (omega arith)),
      rw (word-leaf-count S T limits.levels_high) at (level-bytes S T h (2 * max_levels + 1) (omega arith)),
    )

    module _ (u : List ℕ) (u-is : u ≡ set_word (set_word (unused_written t S.levels (max_levels - S.levels)) leaf_offset_at (offset S T S.levels))
        leaf_count_at (length (leaf_bytes S T))) where
      n8 : S.levels + (max_levels - S.levels) ≡ 8
      n8 = omega (arith, limits.levels_high)

      a : List ℕ
      a = unused_written t S.levels (max_levels - S.levels)

      b : List ℕ
      b = set_word a leaf_offset_at (offset S T S.levels)

      ga : WritesOnlyTree D t a
      unfolding a
      ga = unused-only-tree (max_levels - S.levels) (omega (arith, n8))

      wa : AgreesOn D a (count_at S.levels) leaf_offset_at
      unfolding a
      wa = within-part D (unused_written t S.levels (max_levels - S.levels))
          (count_at S.levels) (pairs_at + 8 * (S.levels + (max_levels - S.levels))) (count_at S.levels) leaf_offset_at
          (unused-within (max_levels - S.levels) (omega (arith, n8))) (omega arith) (omega (arith, n8))

      gb : WritesOnlyTree D a b
      unfolding b
      gb = word-only-tree D a leaf_offset_at (offset S T S.levels) (omega (arith, ga.same_length)) leaf-words.0 (omega (arith, long))

      wb : AgreesOn D b leaf_offset_at leaf_count_at
      unfolding b
      wb = word-within D a leaf_offset_at (offset S T S.levels) (omega (arith, ga.same_length)) leaf-words.0

      gu : WritesOnlyTree D b u
      unfolding a b
      gu =
          rw u-is (word-only-tree D b leaf_count_at (length (leaf_bytes S T))
          (omega (arith, ga.same_length, gb.same_length)) leaf-words.1 (omega (arith, long)))

      wu : AgreesOn D u leaf_count_at header_length
      unfolding a b
      wu = rw u-is (word-within D b leaf_count_at (length (leaf_bytes S T)) (omega (arith, ga.same_length, gb.same_length)) leaf-words.1)

      pub end-only-tree : WritesOnlyTree D t u
      end-only-tree = only-tree-trans D t a u ga (only-tree-trans D a b u gb gu)

      pub end-within : AgreesOn D t 0 (count_at S.levels) → AgreesOn D u 0 header_length
      end-within before =
          within-join D u 0 (count_at S.levels) header_length (agrees-only-tree D t u 0 (count_at S.levels) end-only-tree before)
          (within-join D u (count_at S.levels) leaf_offset_at header_length
          (agrees-only-tree D a u (count_at S.levels) leaf_offset_at (only-tree-trans D a b u gb gu) wa)
          (within-join D u leaf_offset_at leaf_count_at header_length (agrees-only-tree D b u leaf_offset_at leaf_count_at gu wb) wu))

pub end-written : (t u v w : List ℕ) (H a b : ℕ) → u ≡ unused_written t H (max_levels - H) → v ≡ set_word u leaf_offset_at a → w ≡ set_word v leaf_count_at b
    → w ≡ set_word (set_word (unused_written t H (max_levels - H)) leaf_offset_at a) leaf_count_at b
end-written t u v w H a b e f g = rw (g, f, e)
