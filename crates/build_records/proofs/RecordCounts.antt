-- The counts of a record, as they are written one counted byte after the other.
use mathlib.Core.List.{List}
use mathlib.Core.Bool.{true, false}
use mathlib.Core.Path.{◌≡◌, sym, ap, ◌∙◌}
use mathlib.Core.Logic.{◌⊎◌, inl, inr}
use Prim.Native.Nat.{ℕ, ◌+◌, ◌-◌, ◌*◌, ◌≤◌, ◌<◌}
use native.Mathlib.Omega.{arith}
use lib.ListN.{length, get_or}
use lib.Dec.{eqb}
use borrow.Author.Tests.{eqb-true, eqb-false}
use Rattle.text.specs.ListLaws.{bool_cases}
use Rattle.text.specs.Text.{substring, count_in}
use Rattle.format.specs.Layout.{word_at, kind_field, plain_bytes, counted_bytes, Settings, header_length}
use Rattle.format.specs.WordLaws.{put_three}
use Rattle.format.specs.Blocks.{tree_of, record_bytes}
use Rattle.theory_built.specs.BlockSizes.{Taken, BuiltBounds, bounds}
use Rattle.theory_built.specs.Structure.{count}
use Rattle.theory_built.specs.BuiltLeafBytes.{bytes_fit}
use Rattle.theory_built.specs.SizeBounds.{before-le, inside-le}
use Rattle.theory_built.specs.BuiltRecords.{kind_of, link_of, gap_of, before_of, inside_of, skip_of}
use Rattle.build_records.specs.declared.level_written.Level.{Level}
use Rattle.build_records.specs.declared.record_written.Block.{Block}
use Rattle.build_records.specs.WritesOnlyTree.{WritesOnlyTree, AgreesOn}
use Rattle.build_records.specs.RecordPlaces.{record_place}
use Rattle.build_records.specs.RecordWords.{before_word}
use Rattle.build_records.specs.State.{record_settings_of, Writing, place_at}
use Rattle.build_records.proofs.WritesOnlyTreeLaws.{read_right, agrees-only-tree, within-join, only-tree-trans, within-part, three-only-tree}
use Rattle.build_records.proofs.WritesOnlyTreeLaws.{three-within}
use Rattle.build_records.proofs.Neighbours.{LeftOf, left-of, before-left, before-first}
use Rattle.build_records.proofs.StateLaws.{record-size, place_is, place-next, record-inside-table, offset-low, table-inside, kind-bytes}
use Rattle.build_records.proofs.StateLaws.{link-bytes, gap-bytes, before-bytes, inside-bytes, skip-bytes}

module _ (S : Settings) (T out : List ℕ) (level : Level) (i : ℕ) (block : Block) (w : Writing S T out level i block) where
  abbrev l : ℕ
  l = level.number

  abbrev D : List ℕ
  D = tree_of S T

  abbrev P : ℕ
  P = place_at S T l i

  taken : Taken S T
  taken = w.level_is.taken

  limits : BuiltBounds S T
  limits = bounds S T taken

  l-in : l < S.levels
  l-in = w.level_is.number_in

  i-in : i < count S T l
  i-in = omega (arith, w.block_in, w.level_is.count_is)

  pub here-is : record_place level.table i (record_settings_of level.settings S.counted) ≡ P
  here-is = place_is S T level w.level_is i

  pub record-fits : P + record_bytes S ≤ length out
  record-fits = omega (arith, record-inside-table S T l i i-in, w.filled.room)

  record-in-tree : P + record_bytes S ≤ length D
  record-in-tree = omega (arith, record-inside-table S T l i i-in, table-inside S T taken l l-in)

  pub inside-text : block.start.0 + block.length ≤ length T
  inside-text = rw (w.block_is.start_is, w.block_is.length_is) (bytes_fit S T taken l i l-in i-in)

  -- The counts of counted byte number c.
  module _ (at c size : ℕ) (at-is : at ≡ record_place level.table i (record_settings_of level.settings S.counted))
      (size_is : size ≡ record_bytes S) (cl : c < length S.counted) where
    abbrev x : ℕ
    x = get_or S.counted c 0

    abbrev left : ℕ
    left = at + plain_bytes + counted_bytes * c - size

    module _ (j : ℕ) (lo : LeftOf S T l i j) where
      j-in : j < count S T l
      j-in = omega (arith, lo.next, i-in)

      P-is : P ≡ place_at S T l j + record_bytes S
      P-is = ap (place_at S T l) lo.next ∙ place-next S T l j

      left_is : left ≡ place_at S T l j + plain_bytes + counted_bytes * c
      left_is = omega (arith, at-is, here-is, P-is, size_is)

      left-low : size ≤ at + plain_bytes + counted_bytes * c
      left-low = omega (arith, at-is, here-is, P-is, size_is)

      low : header_length ≤ place_at S T l j
      low = omega (arith, offset-low S T l)

      word-before : word_at out left ≡ before_of S T l j x
      word-before =
          rw left_is (read_right D out (place_at S T l j + plain_bytes + counted_bytes * c) (before_of S T l j (get_or S.counted c 0))
          (within-part D out header_length P (place_at S T l j + plain_bytes + counted_bytes * c)
          (place_at S T l j + plain_bytes + counted_bytes * c + 4) w.filled.body (omega (arith, low)) (omega (arith, P-is, record-size S T)))
          (before-bytes S T taken l j l-in j-in c cl)
          (omega (arith, before-le S T l j (get_or S.counted c 0), limits.text_high)))

      word-inside : word_at out (left + 4) ≡ inside_of S T l j x
      word-inside =
          rw left_is (read_right D out (place_at S T l j + plain_bytes + counted_bytes * c + 4) (inside_of S T l j (get_or S.counted c 0))
          (within-part D out header_length P (place_at S T l j + plain_bytes + counted_bytes * c + 4)
          (place_at S T l j + plain_bytes + counted_bytes * c + 4 + 4) w.filled.body (omega (arith, low)) (omega (arith, P-is, record-size S T)))
          (inside-bytes S T taken l j l-in j-in c cl)
          (omega (arith, inside-le S T l j (get_or S.counted c 0), limits.text_high)))

      words : word_at out left + word_at out (left + 4) ≡ before_of S T l i x
      words = rw (word-before, word-inside) (sym (before-left S T taken l i j x l-in i-in lo))

      small : word_at out left + word_at out (left + 4) < 4294967296
      small = omega (arith, words, before-le S T l i x, limits.text_high)

      left-fits : left + 8 ≤ length out
      left-fits = omega (arith, left_is, P-is, record-size S T, record-fits)

    apart : (block.start.0 ≡ block.parent.0 → ⊥) → (j : ℕ) × LeftOf S T l i j
    apart n = left-of S T taken l i l-in i-in (λ e. n (w.block_is.start_is ∙ e ∙ sym w.block_is.parent_is))

    pub left-needs : (block.start.0 ≡ block.parent.0 → ⊥)
        → (size ≤ at + plain_bytes + counted_bytes * c) × (left + 8 ≤ length out) × (word_at out left + word_at out (left + 4) < 4294967296)
    left-needs n = let j = apart n in (left-low j.0 j.1, left-fits j.0 j.1, small j.0 j.1)

    before-is : before_word out left block.start.0 block.parent.0 ≡ before_of S T l i x
    before-is = go (bool_cases (eqb block.start.0 block.parent.0))
      where
        go : (eqb block.start.0 block.parent.0 ≡ true) ⊎ (eqb block.start.0 block.parent.0 ≡ false)
            → before_word out left block.start.0 block.parent.0 ≡ before_of S T l i x
        go (inl y) = rw y (sym (before-first S T taken l i x (sym w.block_is.start_is ∙ eqb-true _ _ y ∙ w.block_is.parent_is)))
        go (inr y) = let j = apart (eqb-false _ _ y) in rw y (words j.0 j.1)

    inside_is : count_in x (substring T block.start.0 block.length) ≡ inside_of S T l i x
    unfolding inside_of
    inside_is = rw (w.block_is.start_is, w.block_is.length_is)

    pub here : at + plain_bytes + counted_bytes * c ≡ P + plain_bytes + counted_bytes * c
    here = omega (arith, at-is, here-is)

    pub count_fits : P + plain_bytes + counted_bytes * c + counted_bytes ≤ length out
    count_fits = omega (arith, record-size S T, record-fits)

    -- The three counts are written.
    module _ (new : List ℕ) (b : ℕ) (b_is : b ≡ before_word out left block.start.0 block.parent.0)
        (New-is : new ≡ put_three out (at + plain_bytes + counted_bytes * c)
        b (count_in x (substring T block.start.0 block.length)) (count_in x (substring T block.from.0 block.gap.0))) where
      new-right : new ≡ put_three out (P + plain_bytes + counted_bytes * c) (before_of S T l i x) (inside_of S T l i x) (skip_of S T l i x)
      new-right = New-is ∙ rw (here, b_is ∙ before-is, inside_is, w.block_is.skip_is x)

      in_tree : P + plain_bytes + counted_bytes * c + counted_bytes ≤ length D
      in_tree = omega (arith, record-size S T, record-in-tree)

      pub counted-only-tree : WritesOnlyTree D out new
      counted-only-tree =
          rw new-right (three-only-tree D out
          (P + plain_bytes + counted_bytes * c) (before_of S T l i x) (inside_of S T l i x) (skip_of S T l i x) count_fits in_tree
          (before-bytes S T taken l i l-in i-in c cl) (inside-bytes S T taken l i l-in i-in c cl) (skip-bytes S T taken l i l-in i-in c cl))

      pub counted-within : AgreesOn D new (P + plain_bytes + counted_bytes * c) (P + plain_bytes + counted_bytes * c + counted_bytes)
      counted-within =
          rw new-right (three-within D out (P + plain_bytes + counted_bytes * c) (before_of S T l i x) (inside_of S T l i x) (skip_of S T l i x) count_fits in_tree
          (before-bytes S T taken l i l-in i-in c cl) (inside-bytes S T taken l i l-in i-in c cl) (skip-bytes S T taken l i l-in i-in c cl))

  -- Kind, link and gap are written.
  module _ (new : List ℕ) (at : ℕ) (at-is : at ≡ record_place level.table i (record_settings_of level.settings S.counted))
      (New-is : new ≡ put_three out (at + 4 * kind_field) block.kind block.link.0 block.gap.0) where
    fields_are : new ≡ put_three out (P + 4 * kind_field) (kind_of S T l i) (link_of S T l i) (gap_of S T l i)
    fields_are = New-is ∙ rw (at-is ∙ here-is, w.block_is.kind_is, w.block_is.link_is, w.block_is.gap_is)

    fits : P + 4 * kind_field + 12 ≤ length out
    fits = omega (arith, record-fits, record-size S T)

    inside : P + 4 * kind_field + 12 ≤ length D
    inside = omega (arith, record-in-tree, record-size S T)

    pub fields-only-tree : WritesOnlyTree D out new
    fields-only-tree =
        rw fields_are (three-only-tree D out (P + 4 * kind_field) (kind_of S T l i) (link_of S T l i) (gap_of S T l i) fits inside
        (kind-bytes S T taken l i l-in i-in) (link-bytes S T taken l i l-in i-in) (gap-bytes S T taken l i l-in i-in))

    fields_within : AgreesOn D new (P + 4 * kind_field) (P + plain_bytes)
    fields_within =
        within-part D new (P + 4 * kind_field) (P + 4 * kind_field + 12) (P + 4 * kind_field) (P + plain_bytes)
        (rw fields_are (three-within D out (P + 4 * kind_field) (kind_of S T l i) (link_of S T l i) (gap_of S T l i) fits inside
        (kind-bytes S T taken l i l-in i-in) (link-bytes S T taken l i l-in i-in) (gap-bytes S T taken l i l-in i-in))) (omega arith) (omega arith)

    -- With the counts and the edges the record is complete.
    pub record-done : (third last : List ℕ)
        → WritesOnlyTree D new third → AgreesOn D third (P + plain_bytes) (P + plain_bytes + counted_bytes * length S.counted) → WritesOnlyTree D third last
        → AgreesOn D last (P + plain_bytes + counted_bytes * length S.counted) (place_at S T l (i + 1)) → AgreesOn D last header_length (place_at S T l (i + 1))
    record-done third last g counts g' edges =
        let on = only-tree-trans D new third last g g' in
        let all = only-tree-trans D out new last fields-only-tree on in
        within-join D last header_length P (place_at S T l (i + 1)) (agrees-only-tree D out last header_length P all w.filled.body)
        (within-join D last P (P + 4 * kind_field) (place_at S T l (i + 1)) (agrees-only-tree D out last P (P + 4 * kind_field) all (w.filled.starts i i-in))
        (within-join D last (P + 4 * kind_field)
        (P + plain_bytes) (place_at S T l (i + 1)) (agrees-only-tree D new last (P + 4 * kind_field) (P + plain_bytes) on fields_within)
        (within-join D last (P + plain_bytes) (P + plain_bytes + counted_bytes * length S.counted) (place_at S T l (i + 1))
        (agrees-only-tree D third last (P + plain_bytes) (P + plain_bytes + counted_bytes * length S.counted) g' counts) edges)))
