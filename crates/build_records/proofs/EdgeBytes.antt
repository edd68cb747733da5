-- The edges of a record, as they are written.
use mathlib.Core.List.{List, []}
use mathlib.Core.Path.{◌≡◌, ap, ◌∙◌}
use Prim.Native.Nat.{ℕ, ◌+◌, ◌-◌, ◌*◌, ◌≤◌, ◌<◌, min}
use native.Mathlib.Omega.{arith}
use native.Mathlib.Nat.{add_assoc}
use native.Mathlib.Numerals.{add-one}
use lib.ListN.{length, get_or}
use Rattle.format.specs.Layout.{plain_bytes, counted_bytes, field_bytes, Settings}
use Rattle.format.specs.Blocks.{tree_of}
use Rattle.format.proofs.EdgeTheorems.{first-own, first-none, last-own, last_none}
use Rattle.theory_built.specs.Structure.{count, start, bytes_in}
use Rattle.theory_built.specs.BuiltLeafBytes.{bytes_fit}
use Rattle.theory_built.specs.BuiltRecords.{edges_in, record_words}
use Rattle.theory_built.specs.BuiltBytes.{edge-byte-is}
use Rattle.byte_slices.specs.ByteSlices.{bytes_written}
use Rattle.build_records.specs.declared.level_written.Level.{Level}
use Rattle.build_records.specs.declared.record_written.Block.{Block}
use Rattle.build_records.specs.WritesOnlyTree.{WritesOnlyTree, AgreesOn}
use Rattle.build_records.specs.RecordPlaces.{record_place}
use Rattle.build_records.specs.RecordWords.{edge_written}
use Rattle.build_records.specs.State.{LevelIs, record_settings_of, Writing, place_at}
use Rattle.build_records.proofs.WritesOnlyTreeLaws.{only-tree-trans, agrees-only-tree, within-join, bytes-only-tree, bytes-within}
use Rattle.build_records.proofs.StateLaws.{record-size, place_is, place-next, record-inside-table, table-inside}

pub edge-then : (t u v T : List ℕ) (at from own m : ℕ) → u ≡ bytes_written t at T from own → v ≡ bytes_written u (at + own) [] 0 (m - own)
    → v ≡ edge_written t at T from own m
edge-then t u v T at from own m e f = f ∙ ap (λ (x : List ℕ). bytes_written x (at + own) [] 0 (m - own)) e

-- An edge that D has at that place.
module _ (D t T : List ℕ) (at from own m : ℕ) (few : own ≤ m) (fits : at + m ≤ length t) (inside : at + m ≤ length D)
    (bytes : (j : ℕ) → j < own → get_or D (at + j) 0 ≡ get_or T (from + j) 0) (zeros : (j : ℕ) → own ≤ j → j < m → get_or D (at + j) 0 ≡ 0) where
  half : List ℕ
  half = bytes_written t at T from own

  half-only-tree : WritesOnlyTree D t half
  unfolding half
  half-only-tree = bytes-only-tree D t T at from own (omega arith) (omega arith) bytes own (omega arith)

  none : (j : ℕ) → j < m - own → get_or D (at + own + j) 0 ≡ get_or [] (0 + j) 0
  none j h = rw (add_assoc at own j) (zeros (own + j) (omega arith) (omega arith))

  rest-only-tree : WritesOnlyTree D half (edge_written t at T from own m)
  unfolding half
  rest-only-tree = bytes-only-tree D half [] (at + own) 0 (m - own) (omega (arith, half-only-tree.same_length)) (omega arith) none (m - own) (omega arith)

  pub edge-only-tree : WritesOnlyTree D t (edge_written t at T from own m)
  edge-only-tree = only-tree-trans D t half (edge_written t at T from own m) half-only-tree rest-only-tree

  pub edge-within : AgreesOn D (edge_written t at T from own m) at (at + m)
  unfolding half
  edge-within =
      let e : at + own + (m - own) ≡ at + m = omega arith in
      within-join D (edge_written t at T from own m) at (at + own) (at + m)
      (agrees-only-tree D half (edge_written t at T from own m) at (at + own) rest-only-tree (bytes-within D t T at from own (omega arith) (omega arith) bytes))
      (rw e at (bytes-within D half [] (at + own) 0 (m - own) (omega (arith, half-only-tree.same_length)) (omega arith) none))

module _ (S : Settings) (T out : List ℕ) (level : Level) (i : ℕ) (block : Block) (w : Writing S T out level i block) where
  abbrev l : ℕ
  l = level.number

  abbrev lev : LevelIs S T level
  lev = w.level_is

  abbrev D : List ℕ
  D = tree_of S T

  abbrev m : ℕ
  m = S.leaf

  -- Where the edges begin.
  abbrev A : ℕ
  A = place_at S T l i + plain_bytes + counted_bytes * length S.counted

  i-in : i < count S T l
  i-in = omega (arith, w.block_in, lev.count_is)

  words : 4 * record_words S T ≡ field_bytes (length S.counted)
  unfolding record_words
  words = omega arith

  edge_at : (x : ℕ) → x < m + m → get_or D (A + x) 0 ≡ get_or (edges_in S T l i) x 0
  edge_at x h =
      let e : A + x ≡ place_at S T l i + 4 * record_words S T + x = omega (arith, words) in
      rw e (edge-byte-is S T lev.taken l i x lev.number_in i-in h)

  fit : start S T l i + bytes_in S T l i ≤ length T
  fit = bytes_fit S T lev.taken l i lev.number_in i-in

  room : A + (m + m) ≤ length out
  room = omega (arith, record-inside-table S T l i i-in, w.filled.room, record-size S T)

  in_tree : A + (m + m) ≤ length D
  in_tree = omega (arith, record-inside-table S T l i i-in, table-inside S T lev.taken l lev.number_in, record-size S T)

  ends : A + (m + m) ≡ place_at S T l (i + 1)
  ends = omega (arith, add-one i, place-next S T l i, record-size S T)

  module _ (at : ℕ) (at-is : at ≡ record_place level.table i (record_settings_of level.settings S.counted))
      (own : ℕ) (own_is : own ≡ min m block.length) where
    here : at + plain_bytes + counted_bytes * length S.counted ≡ A
    here = omega (arith, at-is, place_is S T level lev i)

    few : own ≤ m
    few = omega (arith, own_is)

    own_in : own ≤ bytes_in S T l i
    own_in = omega (arith, own_is, w.block_is.length_is)

    pub first-asks : (at + plain_bytes + counted_bytes * length S.counted + m ≤ length out) × (block.start.0 + own ≤ length T) × (own ≤ m)
    first-asks = (omega (arith, here, room), omega (arith, w.block_is.start_is, own_in, fit), few)

    first-bytes : (j : ℕ) → j < own → get_or D (A + j) 0 ≡ get_or T (start S T l i + j) 0
    first-bytes j h = edge_at j (omega (arith, few)) ∙ first-own T m (start S T l i) (bytes_in S T l i) fit j (omega (arith, few)) (omega (arith, own_in))

    first-zeros : (j : ℕ) → own ≤ j → j < m → get_or D (A + j) 0 ≡ 0
    first-zeros j lo hi = edge_at j (omega arith) ∙ first-none T m (start S T l i) (bytes_in S T l i) fit j hi (omega (arith, own_is, w.block_is.length_is))

    last-bytes : (j : ℕ) → j < own → get_or D (A + m + j) 0 ≡ get_or T (start S T l i + (bytes_in S T l i - own) + j) 0
    last-bytes j h =
        let e : bytes_in S T l i - own ≡ bytes_in S T l i - m = omega (arith, own_is, w.block_is.length_is) in
        rw (add_assoc A m j, e) (edge_at (m + j) (omega (arith, few))
        ∙ last-own T m (start S T l i) (bytes_in S T l i) fit j (omega (arith, few)) (omega (arith, own_in)))

    last-zeros : (j : ℕ) → own ≤ j → j < m → get_or D (A + m + j) 0 ≡ 0
    last-zeros j lo hi = rw (add_assoc A m j)
        (edge_at (m + j) (omega arith) ∙ last_none T m (start S T l i) (bytes_in S T l i) fit j hi (omega (arith, own_is, w.block_is.length_is)))

    module _ (one : List ℕ) (one_is : one ≡ edge_written out (at + plain_bytes + counted_bytes * length S.counted) T block.start.0 own m) where
      one_right : one ≡ edge_written out A T (start S T l i) own m
      one_right = one_is ∙ rw (here, w.block_is.start_is)

      one-only-tree : WritesOnlyTree D out one
      one-only-tree = rw one_right (edge-only-tree D out T A (start S T l i) own m few (omega (arith, room)) (omega (arith, in_tree)) first-bytes first-zeros)

      one-within : AgreesOn D one A (A + m)
      one-within = rw one_right (edge-within D out T A (start S T l i) own m few (omega (arith, room)) (omega (arith, in_tree)) first-bytes first-zeros)

      abbrev last : ℕ
      last = block.start.0 + (block.length - own)

      pub last-asks : (at + plain_bytes + counted_bytes * length S.counted + m + m ≤ length one) × (last + own ≤ length T) × (own ≤ m)
      last-asks = (omega (arith, here, room, one-only-tree.same_length), omega (arith, w.block_is.start_is, w.block_is.length_is, own_in, fit), few)

      module _ (two : List ℕ) (two_is : two ≡ edge_written one (at + plain_bytes + counted_bytes * length S.counted + m) T last own m) where
        two-right : two ≡ edge_written one (A + m) T (start S T l i + (bytes_in S T l i - own)) own m
        two-right = two_is ∙ rw (here, w.block_is.start_is, w.block_is.length_is)

        rest_of : WritesOnlyTree D one two
        rest_of = rw two-right (edge-only-tree D one T (A + m) (start S T l i + (bytes_in S T l i - own))
            own m few (omega (arith, room, one-only-tree.same_length)) (omega (arith, in_tree)) last-bytes last-zeros)

        two-within : AgreesOn D two (A + m) (A + m + m)
        two-within = rw two-right (edge-within D one T (A + m) (start S T l i + (bytes_in S T l i - own))
            own m few (omega (arith, room, one-only-tree.same_length)) (omega (arith, in_tree)) last-bytes last-zeros)

        pub edges-only-tree : WritesOnlyTree D out two
        edges-only-tree = only-tree-trans D out one two one-only-tree rest_of

        pub edges-within : AgreesOn D two A (place_at S T l (i + 1))
        edges-within =
            let e : A + m + m ≡ place_at S T l (i + 1) = omega (arith, ends) in
            rw e at (within-join D two A (A + m) (A + m + m) (agrees-only-tree D one two A (A + m) rest_of one-within) two-within)
