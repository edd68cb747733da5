-- The settings of a tree, and its bytes read by the layout.
-- docs/FORMAT.md: "Settings", "Layout".
use Rattle.std.specs.Prelude.{List, ◌++◌, [], ◌∷◌, map, ℕ, ◌-◌, ◌+◌, ◌*◌, ◌/◌, ◌^◌, ◌%◌, min, length, take, drop, replicate, get_or, set, Bool, true, cond, ◌&&◌, ◌||◌, leb, ltb, eqb}
use Rattle.text.specs.Text.{concat, all_below, sum_below}

-- The edges of a block: its first m bytes and its last m bytes.
-- docs/FORMAT.md: "Edges".

-- The first m of these bytes, filled up with zeros if there are fewer.
unfoldable pub filled_out : ℕ → List ℕ → List ℕ
filled_out m bytes = take m (bytes ++ replicate m 0)

-- The edges of a block with these bytes: its first m bytes, then its last m bytes.
unfoldable pub edges_of : ℕ → List ℕ → List ℕ
edges_of m bytes = filled_out m bytes ++ filled_out m (drop (length bytes - m) bytes)

-- The words of a record (docs/FORMAT.md, "Layout"): the index of each field. The definition that writes records (`Blocks`) and the one that reads them
-- (`Layout`) share these names.

-- The start of the block in the text.
abbrev pub start_field : ℕ
start_field = 0

-- The kind: 0 kept, 1 pointing.
abbrev pub kind_field : ℕ
kind_field = 1

-- The link.
abbrev pub link_field : ℕ
link_field = 2

-- The gap.
abbrev pub gap_field : ℕ
gap_field = 3

-- The number of words of a record before its counts.
abbrev pub plain_words : ℕ
plain_words = 4

-- The number of words of a record for each counted byte.
abbrev pub counted_words : ℕ
counted_words = 3

-- The count before of counted byte number c.
abbrev pub before_field : ℕ → ℕ
before_field c = plain_words + counted_words * c

-- The count inside of counted byte number c.
abbrev pub inside_field : ℕ → ℕ
inside_field c = plain_words + 1 + counted_words * c

-- The skip of counted byte number c.
abbrev pub skip_field : ℕ → ℕ
skip_field c = plain_words + 2 + counted_words * c

-- Their bytes, four to a word.
abbrev pub plain_bytes : ℕ
plain_bytes = 4 * plain_words

-- The number of bytes of a record for each counted byte.
abbrev pub counted_bytes : ℕ
counted_bytes = 4 * counted_words

-- The number of bytes of the words of a record with k counted bytes.
abbrev pub field_bytes : ℕ → ℕ
field_bytes k = plain_bytes + counted_bytes * k

-- The words before the counts, in the order of their indices; `in_order` shows that the order agrees.
abbrev pub plain_fields : ℕ → ℕ → ℕ → ℕ → List ℕ
plain_fields start kind link gap = start ∷ kind ∷ link ∷ gap ∷ []

-- The three words of a counted byte.
abbrev pub count_fields : ℕ → ℕ → ℕ → List ℕ
count_fields before inside skip = before ∷ inside ∷ skip ∷ []

-- The settings of a tree, and their bounds.
-- docs/FORMAT.md: "Settings", "The questions".

-- The settings of a tree.
pub record Settings : Type 0 where
  -- The leaf length m: the number of bytes of a full block of the last level.
  pub leaf : ℕ
  -- The arity r: the number of children of a full block.
  pub arity : ℕ
  -- The number of levels H.
  pub levels : ℕ
  -- The bytes that the tree counts, in ascending order.
  pub counted : List ℕ

abbrev pub given : ℕ → ℕ → ℕ → List ℕ → Settings
given m r H cs = record { leaf = m; arity = r; levels = H; counted = cs }

-- The bounds, each named once: of a text's length and of a level 0 block, of m, r, H and k.
abbrev pub max_text : ℕ
max_text = 8388608

abbrev pub min_leaf : ℕ
min_leaf = 1

abbrev pub max_leaf : ℕ
max_leaf = 256

abbrev pub min_arity : ℕ
min_arity = 2

abbrev pub max_arity : ℕ
max_arity = 16

abbrev pub min_levels : ℕ
min_levels = 1

abbrev pub max_levels : ℕ
max_levels = 8

abbrev pub max_counted : ℕ
max_counted = 4

-- Question 1: the text has at most `max_text` bytes.
unfoldable pub length_ok : ℕ → Bool
length_ok n = leb n max_text

-- Question 2: m, r and H are in their bounds, and a level 0 block has at most `max_text` bytes.
unfoldable pub sizes_ok : Settings → Bool
sizes_ok S =
    leb min_leaf S.leaf && leb S.leaf max_leaf && (leb min_arity S.arity && leb S.arity max_arity)
    && (leb min_levels S.levels && leb S.levels max_levels && leb (S.leaf * S.arity ^ (S.levels - 1)) max_text)

-- Whether the list is strictly ascending and its first element is above x.
unfoldable pub rising_after : ℕ → List ℕ → Bool
rising_after x [] = true
rising_after x (y ∷ ys) = ltb x y && rising_after y ys

-- Whether the list is strictly ascending.
unfoldable pub rising : List ℕ → Bool
rising [] = true
rising (x ∷ xs) = rising_after x xs

-- Question 3: at most `max_counted` counted bytes, strictly ascending.
unfoldable pub counted_ok : List ℕ → Bool
counted_ok cs = leb (length cs) max_counted && rising cs

-- The block length b of level l: the number of bytes of a full block.
unfoldable pub block_length : Settings → ℕ → ℕ
block_length S l = S.leaf * S.arity ^ (S.levels - 1 - l)

-- The number of blocks of b bytes that x bytes are divided into; the last one may be shorter.
unfoldable pub pieces : ℕ → ℕ → ℕ
pieces x b = (x + (b - 1)) / b

-- The number of bytes of a record: its words, with k counted bytes, and in layout 2 two edges of m bytes.
unfoldable pub record_length : ℕ → ℕ → ℕ → ℕ
record_length layout m k = field_bytes k + cond (eqb layout 2) (m + m) 0

-- The offsets of the header's words, in bytes (docs/FORMAT.md, "Layout"): six words, one byte for each of up to four counted bytes, a count and an offset for
-- each of up to eight levels, and two words for the leaf bytes.

-- The layout.
abbrev pub layout_at : ℕ
layout_at = 0

-- The length n of the text.
abbrev pub text_length_at : ℕ
text_length_at = 4

-- The leaf length m.
abbrev pub leaf_at : ℕ
leaf_at = 8

-- The arity r.
abbrev pub arity_at : ℕ
arity_at = 12

-- The number of levels H.
abbrev pub levels_at : ℕ
levels_at = 16

-- The number k of counted bytes.
abbrev pub counted_count_at : ℕ
counted_count_at = 20

-- The counted bytes, one byte each.
abbrev pub counted_at : ℕ
counted_at = 24

-- The words of the levels.
abbrev pub pairs_at : ℕ
pairs_at = counted_at + max_counted

-- The number of blocks of level l.
abbrev pub count_at : ℕ → ℕ
count_at l = pairs_at + 8 * l

-- The offset of the first record of level l.
abbrev pub offset_at : ℕ → ℕ
offset_at l = pairs_at + 4 + 8 * l

-- The offset of the leaf bytes, after the words of eight levels.
abbrev pub leaf_offset_at : ℕ
leaf_offset_at = pairs_at + 8 * max_levels

-- The number of leaf bytes.
abbrev pub leaf_count_at : ℕ
leaf_count_at = leaf_offset_at + 4

-- The length of the header; the first record follows.
abbrev pub header_length : ℕ
header_length = leaf_count_at + 4

-- Words: little-endian 32-bit numbers, four bytes with the lowest first.

-- The word whose lowest byte is at offset i.
unfoldable pub word_at : List ℕ → ℕ → ℕ
word_at t i = get_or t i 0 + 256 * get_or t (i + 1) 0 + 65536 * get_or t (i + 2) 0 + 16777216 * get_or t (i + 3) 0

-- The four bytes of a word.
unfoldable pub word_bytes : ℕ → List ℕ
word_bytes w = w % 256 ∷ w / 256 % 256 ∷ w / 65536 % 256 ∷ w / 16777216 % 256 ∷ []

-- The bytes of words, one after the other.
unfoldable pub words_bytes : List ℕ → List ℕ
words_bytes ws = concat (map word_bytes ws)

-- The bytes t with the word w written at offset i.
unfoldable pub set_word : List ℕ → ℕ → ℕ → List ℕ
set_word t i w =
    set (set (set (set t i (w % 256)) (i + 1) (w / 256 % 256)) (i + 2) (w / 65536 % 256)) (i + 3) (w / 16777216 % 256)

-- How the bytes of a tree are read: the words of the header, the fields of a record, a leaf byte. The definitions take any bytes.
-- docs/FORMAT.md: "Layout", "The questions".

module _ (t : List ℕ) where
  -- The layout: 1, or 2 for a tree whose records have edges.
  unfoldable pub layout : ℕ
  layout = word_at t layout_at

  -- The length n of the text.
  unfoldable pub text_length : ℕ
  text_length = word_at t text_length_at

  -- The number k of counted bytes.
  unfoldable pub counted_count : ℕ
  counted_count = word_at t counted_count_at

  -- The settings in the header.
  unfoldable pub settings : Settings
  settings = record {
    leaf = word_at t leaf_at;
    arity = word_at t arity_at;
    levels = word_at t levels_at;
    counted = take counted_count (take max_counted (drop counted_at t));
  }

  -- The number of blocks of level l.
  unfoldable pub level_count : ℕ → ℕ
  level_count l = word_at t (count_at l)

  -- The offset of the first record of level l.
  unfoldable pub level_offset : ℕ → ℕ
  level_offset l = word_at t (offset_at l)

  -- The offset of the leaf bytes.
  unfoldable pub leaf_offset : ℕ
  leaf_offset = word_at t leaf_offset_at

  -- The number of leaf bytes.
  unfoldable pub leaf_count : ℕ
  leaf_count = word_at t leaf_count_at

  -- The number of bytes of each record.
  unfoldable pub record_size : ℕ
  record_size = record_length layout settings.leaf counted_count

  -- Word f of the record of block i of level l.
  unfoldable pub field : ℕ → ℕ → ℕ → ℕ
  field l i f = word_at t (level_offset l + i * record_size + 4 * f)

  -- The place of the block's first byte in the text.
  unfoldable pub start : ℕ → ℕ → ℕ
  start l i = field l i start_field

  -- The kind: 0 for a kept block, 1 for a pointing block.
  unfoldable pub kind : ℕ → ℕ → ℕ
  kind l i = field l i kind_field

  -- The link. A kept block: the number of its first child; on the last level, of its first leaf byte. A pointing block: the number of the block in which its
  -- occurrence begins.
  unfoldable pub link : ℕ → ℕ → ℕ
  link l i = field l i link_field

  -- The gap of a pointing block (offset): how far into the linked block its occurrence begins.
  unfoldable pub gap : ℕ → ℕ → ℕ
  gap l i = field l i gap_field

  -- The count before: how often counted byte number c occurs in the parent before this block; on level 0, in the text before it.
  unfoldable pub before : ℕ → ℕ → ℕ → ℕ
  before l i c = field l i (before_field c)

  -- The count inside: how often counted byte number c occurs in the block.
  unfoldable pub inside : ℕ → ℕ → ℕ → ℕ
  inside l i c = field l i (inside_field c)

  -- The count skipped: how often counted byte number c occurs in the linked block before the occurrence; 0 for a kept block.
  unfoldable pub skip : ℕ → ℕ → ℕ → ℕ
  skip l i c = field l i (skip_field c)

  -- The offset of the edges of block i of level l in a layout 2 tree: they follow its words.
  unfoldable pub edges_at : ℕ → ℕ → ℕ
  edges_at l i = level_offset l + i * record_size + field_bytes counted_count

  -- Leaf byte number x.
  unfoldable pub leaf_byte : ℕ → ℕ
  leaf_byte x = get_or t (leaf_offset + x) 0

  -- The block length b of level l.
  unfoldable pub full_length : ℕ → ℕ
  full_length l = block_length settings l

  -- The length of block i of level l: b, or less if the text ends before.
  unfoldable pub block_length_at : ℕ → ℕ → ℕ
  block_length_at l i = min (full_length l) (text_length - start l i)

  -- Whether block i of level l is kept (marked).
  unfoldable pub is_kept : ℕ → ℕ → Bool
  is_kept l i = eqb (kind l i) 0

  -- Whether block i of level l points.
  unfoldable pub is_pointing : ℕ → ℕ → Bool
  is_pointing l i = eqb (kind l i) 1

  -- Whether the records have edges.
  unfoldable pub has_edges : Bool
  has_edges = eqb layout 2

  -- Question 5: the bytes have room for a header.
  unfoldable pub holds_header : Bool
  holds_header = leb header_length (length t)

  -- Question 6: the layout is 1 or 2.
  unfoldable pub layout_ok : Bool
  layout_ok = eqb layout 1 || eqb layout 2

  -- Question 7: length and settings are in their bounds, unused places are 0, level 0 covers the text, and the offsets and the size are those that the counts
  -- give.
  unfoldable pub is_header_ok : Bool
  is_header_ok =
      let H = settings.levels in
      length_ok text_length && sizes_ok settings
      && (leb counted_count max_counted && counted_ok settings.counted)
      && all_below (max_counted - counted_count) (λ x. eqb (get_or t (counted_at + counted_count + x) 0) 0)
      && all_below (max_levels - H) (λ x. eqb (level_count (H + x)) 0 && eqb (level_offset (H + x)) 0)
      && eqb (level_count 0) (pieces text_length (full_length 0))
      && all_below H (λ l. eqb (level_offset l) (header_length + sum_below l level_count * record_size))
      && eqb leaf_offset (header_length + sum_below H level_count * record_size)
      && eqb (length t) (leaf_offset + leaf_count)
