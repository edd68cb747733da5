-- What is read from the records of a level: the starts of its blocks, and the bytes of a block.
use mathlib.Core.List.{List}
use mathlib.Core.Path.{◌≡◌, sym, ◌∙◌}
use Prim.Native.Nat.{ℕ, suc, ◌+◌, ◌-◌, ◌≤◌, ◌<◌, min}
use native.Mathlib.Omega.{arith}
use lib.ListN.{length}
use Rattle.format.specs.Layout.{word_at, Settings, header_length}
use Rattle.format.specs.Blocks.{tree_of}
use Rattle.text.specs.declared.TextPlace.{TextPlace}
use Rattle.theory_built.specs.BuiltLeafBytes.{bytes_fit}
use Rattle.theory_built.specs.Pairs.{offset}
use Rattle.theory_built.specs.Structure.{count, start, bytes_in, bytes_in-is, level_at}
use Rattle.theory_built.specs.BlockSizes.{bounds}
use Rattle.build_records.specs.declared.level_written.Level.{Level}
use Rattle.build_records.specs.WritesOnlyTree.{AgreesOn}
use Rattle.build_records.specs.RecordPlaces.{record_place}
use Rattle.build_records.specs.State.{record_settings_of, LevelIs, BlockNext, SubstringIs, place_at}
use Rattle.build_records.proofs.WritesOnlyTreeLaws.{read_right, within-part}
use Rattle.build_records.proofs.StateLaws.{record-size, place_is, start-bytes, record-inside-table, offset-low}

module _ (S : Settings) (T out : List ℕ) (level : Level) (i : ℕ) (w : BlockNext S T out level i) where
  abbrev l : ℕ
  l = level.number

  abbrev lev : LevelIs S T level
  lev = w.level_is

  -- The start of any block of the level.
  module _ (x : ℕ) (xl : x < level.count) where
    x-in : x < count S T l
    x-in = omega (arith, lev.count_is)

    at : record_place level.table x (record_settings_of level.settings S.counted) ≡ place_at S T l x
    at = place_is S T level lev x

    pub start_fits : record_place level.table x (record_settings_of level.settings S.counted) + 4 ≤ length out
    start_fits = omega (arith, at, record-size S T, record-inside-table S T l x x-in, w.filled.room)

    pub start-read : word_at out (record_place level.table x (record_settings_of level.settings S.counted)) ≡ start S T l x
    start-read = rw at (read_right (tree_of S T) out (place_at S T l x) (start S T l x) (w.filled.starts x x-in)
        (start-bytes S T lev.taken l x lev.number_in x-in)
        (omega (arith, (level_at S T lev.taken l lev.number_in).within x x-in, (bounds S T lev.taken).text_high)))

    pub start-in : start S T l x < length T
    start-in = (level_at S T lev.taken l lev.number_in).within x x-in

  -- The bytes of block i.
  module _ (s : TextPlace) (s-is : s.0 ≡ word_at out (record_place level.table i (record_settings_of level.settings S.counted))) where
    s-right : s.0 ≡ start S T l i
    s-right = s-is ∙ start-read i w.block_in

    pub substring-is : (len : ℕ) → len ≡ min level.size (length T - s.0) → SubstringIs S T l i (record { start = s; length = len })
    substring-is len len_is =
        let e : len ≡ bytes_in S T l i = len_is ∙ rw (s-right, lev.size_is) (sym (bytes_in-is S T l i)) in
        record {
          start_is = s-right;
          length_is = e;
          fits = omega (arith, s-right, e, bytes_fit S T lev.taken l i lev.number_in (omega (arith, w.block_in, lev.count_is)));
        }

-- A block of a level whose records are all written.
pub on-written : (S : Settings) (T out : List ℕ) (level : Level) (i : ℕ) → LevelIs S T level → offset S T (suc level.number) ≤ length out
    → AgreesOn (tree_of S T) out header_length (offset S T (suc level.number)) → i < level.count → BlockNext S T out level i
on-written S T out level i h room body il = record {
  level_is = h;
  filled = record {
    room = room;
    body = within-part (tree_of S T) out header_length (offset S T (suc level.number)) header_length (place_at S T level.number i) body (omega arith)
        (omega (arith, record-inside-table S T level.number i (omega (arith, h.count_is))));
    starts = λ x xl. within-part
        (tree_of S T) out header_length (offset S T (suc level.number)) (place_at S T level.number x) (place_at S T level.number x + 4) body
        (omega (arith, offset-low S T level.number))
        (omega (arith, record-inside-table S T level.number x xl, record-size S T));
  };
  block_in = il;
}
