-- A tree without its edges is the same tree in layout 1: the header with the layout word 1 and the offsets of layout 1, the words of each record, the
-- leaf bytes. The definition takes any bytes; bytes that pass questions 5 to 7 give a tree that passes them too.
-- docs/FORMAT.md: "A tree without its edges".
use Rattle.std.specs.Prelude.{List, ◌++◌, ℕ, zero, suc, ◌+◌, ◌*◌, ◌<◌, get_or, take}
use Rattle.text.specs.Text.{tabulate, concat, sum_below, substring}
use Rattle.format.specs.Layout.{set_word, field_bytes, layout_at, offset_at, leaf_offset_at, header_length}
use Rattle.format.specs.Layout as at

-- The layout without edges.
abbrev pub edgeless_layout : ℕ
edgeless_layout = 1

-- Every number of the list is a byte.
abbrev pub AllBytes : List ℕ → Type 0
AllBytes t = (x : ℕ) → get_or t x 0 < 256

module _ (t : List ℕ) where
  -- The size of a record without its edges.
  unfoldable pub layout1_record_size : ℕ
  layout1_record_size = field_bytes (at.counted_count t)

  -- The offset of level l in layout 1; for l = levels, the offset of the leaf bytes.
  unfoldable pub layout1_offset : ℕ → ℕ
  layout1_offset l = header_length + sum_below l (at.level_count t) * layout1_record_size

  -- The header h with the offsets of its first l levels replaced.
  unfoldable pub offsets_in : ℕ → List ℕ → List ℕ
  offsets_in zero h = h
  offsets_in (suc l) h = set_word (offsets_in l h) (offset_at l) (layout1_offset l)

  -- The header in layout 1: its layout word and all offsets replaced.
  unfoldable pub layout1_header : List ℕ
  layout1_header =
      let H = (at.settings t).levels in
      set_word (offsets_in H (set_word (take header_length t) layout_at edgeless_layout)) leaf_offset_at (layout1_offset H)

  -- The number of records of all levels; they are numbered from 0 in their order.
  unfoldable pub record_count : ℕ
  record_count = sum_below (at.settings t).levels (at.level_count t)

  -- Record j without its edges.
  unfoldable pub layout1_record : ℕ → List ℕ
  layout1_record j = substring t (header_length + j * at.record_size t) layout1_record_size

  -- All records without their edges.
  unfoldable pub layout1_records : List ℕ
  layout1_records = concat (tabulate record_count layout1_record)

  -- The leaf bytes, unchanged.
  unfoldable pub layout1_leaf_bytes : List ℕ
  layout1_leaf_bytes = substring t (at.leaf_offset t) (at.leaf_count t)

  -- The tree in layout 1.
  unfoldable pub without_edges : List ℕ
  without_edges = layout1_header ++ layout1_records ++ layout1_leaf_bytes
