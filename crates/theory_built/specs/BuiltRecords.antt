-- The words and the edges of a record of the built tree, one by one, and the place of each of its bytes among those of all records.
use mathlib.Core.List.{List, ◌++◌, map}
use Rattle.std.specs.Prelude.{Bool, cond, ◌≡◌, length}
use Rattle.std.proofs.Math.Bool.{true, false}
use Rattle.std.proofs.Math.Path.{refl, ap}
use Rattle.std.proofs.Common.{sym, ◌∙◌, arith, get_or-append-add}
use Prim.Native.Nat.{ℕ, zero, suc, ◌+◌, ◌-◌, ◌*◌, ◌/◌, ◌<◌}
use Rattle.std.proofs.Math.Nat.{mul_comm}
use Rattle.std.proofs.Math.ListN.{get_or, length-append}
use Rattle.std.proofs.Math.Arith.{digits_lt}
use Rattle.text.specs.Text.{tabulate, concat, sum_below, substring, count_in}
use Rattle.text.specs.ListLaws.{sum_below-ext}
use Rattle.format.specs.Layout.{Settings, words_bytes, start_field, kind_field, link_field, gap_field, plain_fields, plain_words, counted_words}
use Rattle.format.specs.WordLaws.{length-words}
use Rattle.format.specs.Layout.{before_field, inside_field, skip_field, count_fields, edges_of}
use Rattle.format.specs.LayoutLaws.{field_count}
use Rattle.format.specs.EdgeLaws.{length-edges}
use Rattle.format.specs.SizeLaws.{record-edged}
use Rattle.format.specs.Blocks.{starts_at, record_of, record_in, record_bytes, level_bytes, built_layout}
use Rattle.theory_built.specs.Gather.{length-concat, get_or-concat, map-tabulate, sum_below-same, sum_below-scale}
use Rattle.theory_built.specs.Structure.{size, count, start, bytes_in, kept_at, width_of}
use Rattle.theory_built.specs.BuiltTargets.{place_of, target_of}

module _ (S : Settings) (T : List ℕ) where
  -- The start of the parent of a block of level l that starts at s; the text's on level 0.
  unfoldable pub parent_of : ℕ → ℕ → ℕ
  parent_of zero s = 0
  parent_of (suc l) s = s / size S T l * size S T l

  unfoldable pub kind_of : ℕ → ℕ → ℕ
  kind_of l i = cond (kept_at S T l i) 0 1

  unfoldable pub link_of : ℕ → ℕ → ℕ
  link_of l i = cond (kept_at S T l i) (sum_below i (width_of S T l)) (target_of S T l i)

  unfoldable pub gap_of : ℕ → ℕ → ℕ
  gap_of l i = cond (kept_at S T l i) 0 (place_of S T l i - start S T l (target_of S T l i))

  -- The counts of byte c.
  unfoldable pub before_of : ℕ → ℕ → ℕ → ℕ
  before_of l i c = count_in c (substring T (parent_of l (start S T l i)) (start S T l i - parent_of l (start S T l i)))

  unfoldable pub inside_of : ℕ → ℕ → ℕ → ℕ
  inside_of l i c = count_in c (substring T (start S T l i) (bytes_in S T l i))

  unfoldable pub skip_of : ℕ → ℕ → ℕ → ℕ
  skip_of l i c = cond (kept_at S T l i) 0 (count_in c (substring T (start S T l (target_of S T l i)) (place_of S T l i - start S T l (target_of S T l i))))

  fields : ℕ → ℕ → List ℕ
  fields l i = plain_fields (start S T l i) (kind_of l i) (link_of l i) (gap_of l i)

  counts : ℕ → ℕ → ℕ → List ℕ
  counts l i c = count_fields (before_of l i c) (inside_of l i c) (skip_of l i c)

  -- The record of block i of level l.
  abbrev pub record_at : ℕ → ℕ → List ℕ
  record_at l i = record_of S T l (starts_at S T l) i

  fields_are : (l i : ℕ) (k : Bool) → kept_at S T l i ≡ k
      → cond k (plain_fields (start S T l i) 0 (sum_below i (width_of S T l)) 0)
      (plain_fields (start S T l i) 1 (target_of S T l i) (place_of S T l i - start S T l (target_of S T l i))) ≡ fields l i
  unfolding fields kind_of link_of gap_of
  fields_are l i true e = rw e
  fields_are l i false e = rw e

  record_is : (l i : ℕ) → record_at l i ≡ fields l i ++ concat (map (counts l i) S.counted)
  unfolding record_of counts before_of inside_of skip_of parent_of
  record_is zero i = ap (λ (x : List ℕ). x ++ concat (map (counts zero i) S.counted)) (fields_are zero i (kept_at S T zero i) refl)
  record_is (suc l) i = ap (λ (x : List ℕ). x ++ concat (map (counts (suc l) i) S.counted)) (fields_are (suc l) i (kept_at S T (suc l) i) refl)

  -- How many words a record has.
  unfoldable pub record_words : ℕ
  record_words = field_count (length S.counted)

  module _ (l i : ℕ) where
    pub record-start : get_or (record_at l i) start_field 0 ≡ start S T l i
    unfolding fields
    record-start = rw (record_is l i)

    pub record-kind : get_or (record_at l i) kind_field 0 ≡ kind_of l i
    unfolding fields
    record-kind = rw (record_is l i)

    pub record-link : get_or (record_at l i) link_field 0 ≡ link_of l i
    unfolding fields
    record-link = rw (record_is l i)

    pub record-gap : get_or (record_at l i) gap_field 0 ≡ gap_of l i
    unfolding fields
    record-gap = rw (record_is l i)

    count_words : List ℕ
    count_words = concat (tabulate (length S.counted) (λ c. counts l i (get_or S.counted c 0)))

    record-split : record_at l i ≡ fields l i ++ count_words
    unfolding count_words
    record-split = record_is l i ∙ ap (λ (x : List (List ℕ)). fields l i ++ concat x) (map-tabulate (counts l i) S.counted)

    pub length-record : length (record_at l i) ≡ record_words
    unfolding count_words fields counts record_words
    length-record =
        rw (
          record-split,
          length-append (fields l i) count_words,
          length-concat (length S.counted) (λ c. counts l i (get_or S.counted c 0)),
          sum_below-same (length S.counted) counted_words,
        )
        (omega (arith, mul_comm counted_words (length S.counted)))

    record-count : (c j : ℕ) → c < length S.counted
        → j < counted_words → get_or (record_at l i) (plain_words + (c * counted_words + j)) 0 ≡ get_or (counts l i (get_or S.counted c 0)) j 0
    unfolding count_words fields counts
    record-count c j h k =
        rw (record-split) (get_or-append-add (fields l i) count_words (c * counted_words + j) 0)
        ∙ ap (λ (x : ℕ). get_or count_words (x + j) 0) (sym (sum_below-same c counted_words))
        ∙ get_or-concat (length S.counted) (λ c. counts l i (get_or S.counted c 0)) c j 0 h k

    module _ (c : ℕ) (h : c < length S.counted) where
      pub record-before : get_or (record_at l i) (before_field c) 0 ≡ before_of l i (get_or S.counted c 0)
      unfolding counts
      record-before =
          let e : before_field c ≡ plain_words + (c * counted_words + 0) = omega (arith, mul_comm counted_words c) in
          rw e (record-count c 0 h (omega arith))

      pub record-inside : get_or (record_at l i) (inside_field c) 0 ≡ inside_of l i (get_or S.counted c 0)
      unfolding counts
      record-inside =
          let e : inside_field c ≡ plain_words + (c * counted_words + 1) = omega (arith, mul_comm counted_words c) in
          rw e (record-count c 1 h (omega arith))

      pub record-skip : get_or (record_at l i) (skip_field c) 0 ≡ skip_of l i (get_or S.counted c 0)
      unfolding counts
      record-skip =
          let e : skip_field c ≡ plain_words + (c * counted_words + 2) = omega (arith, mul_comm counted_words c) in
          rw e (record-count c 2 h (omega arith))

  -- A record's bytes: its words', then its edges.
  abbrev pub edges_in : ℕ → ℕ → List ℕ
  edges_in l i = edges_of S.leaf (substring T (start S T l i) (bytes_in S T l i))

  pub record-bytes : record_bytes S ≡ 4 * record_words + (S.leaf + S.leaf)
  unfolding record_bytes record_words
  record-bytes = omega (arith, record-edged built_layout S.leaf (length S.counted) refl)

  abbrev pub bytes_at : ℕ → ℕ → List ℕ
  bytes_at l i = record_in S T l (starts_at S T l) i

  pub bytes-are : (l i : ℕ) → bytes_at l i ≡ words_bytes (record_at l i) ++ edges_in l i
  unfolding record_in
  bytes-are l i = refl

  length-bytes : (l i : ℕ) → length (bytes_at l i) ≡ record_bytes S
  length-bytes l i =
      rw (bytes-are l i, length-append (words_bytes (record_at l i)), length-words (record_at l i), length-record l i, length-edges, record-bytes)

  -- All records, level by level.
  abbrev pub level_of : ℕ → List ℕ
  level_of l = level_bytes S T l (starts_at S T l)

  unfoldable pub records : List ℕ
  records = concat (tabulate S.levels level_of)

  record-places : (l i : ℕ) → sum_below i (λ i. length (bytes_at l i)) ≡ i * record_bytes S
  record-places l i = sum_below-ext i _ _ (λ j _. length-bytes l j) ∙ sum_below-same i (record_bytes S)

  length-level : (l : ℕ) → length (level_of l) ≡ count S T l * record_bytes S
  unfolding level_bytes
  length-level l = length-concat (count S T l) (bytes_at l) ∙ record-places l (count S T l)

  level-byte : (l i x : ℕ) → i < count S T l → x < record_bytes S → get_or (level_of l) (i * record_bytes S + x) 0 ≡ get_or (bytes_at l i) x 0
  unfolding level_bytes
  level-byte l i x il xl = rw (← record-places l i) (get_or-concat (count S T l) (bytes_at l) i x 0 il (rw (length-bytes l i) xl))

  level-places : (l : ℕ) → sum_below l (λ l. length (level_of l)) ≡ sum_below l (count S T) * record_bytes S
  level-places l = sum_below-ext l _ _ (λ j _. length-level j) ∙ sum_below-scale l (record_bytes S) (count S T)

  pub length-records : length records ≡ sum_below S.levels (count S T) * record_bytes S
  unfolding records
  length-records = length-concat S.levels level_of ∙ level-places S.levels

  pub record-byte : (l i x : ℕ) → l < S.levels → i < count S T l → x < record_bytes S
      → get_or records (sum_below l (count S T) * record_bytes S + (i * record_bytes S + x)) 0 ≡ get_or (bytes_at l i) x 0
  unfolding records
  record-byte l i x k il xl =
      rw (← level-places l) (get_or-concat S.levels level_of l (i * record_bytes S + x) 0 k (rw (length-level l) (within i (count S T l) x il xl)))
      ∙ level-byte l i x il xl
    where
      within : (i N x : ℕ) → i < N → x < record_bytes S → i * record_bytes S + x < N * record_bytes S
      within i N x il xl = digits_lt il xl
