-- The precondition of reading a field of a record: the slice has its four bytes.
use Rattle.std.specs.Prelude.{List, ◌≡◌, ℕ, ◌+◌, ◌*◌, ◌≤◌, ◌<◌, length, get_or}
use Rattle.std.proofs.Common.{◌∙◌, arith}
use Rattle.format.specs.Layout.{settings, layout, level_count, level_offset, counted_count, record_size, field, max_levels, max_counted}
use Rattle.format.specs.WordLaws.{word_at-agree}
use Rattle.format.specs.LayoutLaws.{field_count, Readable, word-inside}
use Rattle.format.specs.SizeLaws.{max_record}
use Rattle.format.specs.Layout.{layout_at, leaf_at, counted_count_at, offset_at, header_length}

pub record FieldIn (t : List ℕ) (size level block f : ℕ) : Type 0 where
  pub header : header_length ≤ length t
  pub level_low : level < max_levels
  pub size_is : size ≡ record_size t
  pub f_low : f < field_count max_counted
  pub inside : level_offset t level + block * record_size t + 4 * f + 4 ≤ length t

-- In a tree that passes questions 5 to 7, every field of every record of its tables is inside the tree.
pub field_in : (t : List ℕ) → Readable t → (size level block f : ℕ) → size ≡ record_size t → level < (settings t).levels → block < level_count t level
    → f < field_count (counted_count t) → FieldIn t size level block f
field_in t k size level block f is hl hb hf = record {
  header = k.long;
  level_low = omega (arith, k.bounds.levels_high);
  size_is = is;
  f_low = omega (arith, k.bounds.counted_high);
  inside = word-inside t k level block f hl hb hf;
}

-- A field is read from its own four bytes. Bytes with the same header that contain these four, even if the record is cut off after them, contain the field;
-- and if they agree on these four, it is the same number, whatever else they contain and however long they are.
module _ (t u : List ℕ) (header : (k : ℕ) → k < header_length → get_or t k 0 ≡ get_or u k 0) where
  same_size : record_size t ≡ record_size u
  unfolding record_size layout settings counted_count
  same_size =
      rw (
        word_at-agree t u layout_at (λ k low high. header k (omega arith)),
        word_at-agree t u leaf_at (λ k low high. header k (omega arith)),
        word_at-agree t u counted_count_at (λ k low high. header k (omega arith)),
      )

  same-offset : (level : ℕ) → level < max_levels → level_offset t level ≡ level_offset u level
  unfolding level_offset
  same-offset level low = word_at-agree t u (offset_at level) (λ k l h. header k (omega arith))

  module _ (size level block f : ℕ) (h : FieldIn t size level block f) where
    abbrev place : ℕ
    place = level_offset t level + block * record_size t + 4 * f

    pub field-held : header_length ≤ length u → place + 4 ≤ length u → FieldIn u size level block f
    field-held long held = record {
      header = long;
      level_low = h.level_low;
      size_is = h.size_is ∙ same_size;
      f_low = h.f_low;
      inside = rw (← same-offset level h.level_low, ← same_size) held;
    }

    pub field-agree : ((k : ℕ) → place ≤ k → k < place + 4 → get_or t k 0 ≡ get_or u k 0) → field t level block f ≡ field u level block f
    unfolding field
    field-agree same = word_at-agree t u place same ∙ rw (same-offset level h.level_low, same_size)

-- The precondition of computing the offset of edges.
pub record EdgesIn (t : List ℕ) (size counted level : ℕ) : Type 0 where
  pub header : header_length ≤ length t
  pub level_low : level < max_levels
  pub size_is : size ≡ record_size t
  pub size_few : size ≤ max_record
  pub counted_is : counted ≡ counted_count t
  pub counted_few : counted ≤ max_counted
