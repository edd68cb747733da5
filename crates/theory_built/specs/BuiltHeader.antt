-- The built tree passes questions 5 to 7.
use Rattle.std.specs.Prelude.{List, true, ◌&&◌, ◌≡◌, ℕ, ◌+◌, ◌-◌, ◌*◌, ◌≤◌, ◌<◌, get_or, replicate, leb, eqb}
use Rattle.std.proofs.Common.{ap, ◌∙◌, le-leb, eq-eqb}
use native.Mathlib.Omega.{arith}
use Rattle.std.proofs.Math.ListN.{length, get_or-append, get_or-replicate}
use Rattle.std.proofs.Math.Seq.{get_or-append-add}
use Rattle.text.specs.Text.{all_below, sum_below}
use Rattle.text.specs.ListLaws.{and_both, all_below-make, sum_below-ext}
use Rattle.format.specs.Layout.{Settings, length_ok, sizes_ok, counted_ok, pieces, max_levels, max_counted, counted_at, header_length}
use Rattle.format.specs.Blocks.{tree_of, leaf_bytes}
use Rattle.format.specs.Layout as at
use Rattle.format.specs.TreeReading.{header_result}
use Rattle.theory_built.specs.BlockSizes.{Taken, BuiltBounds, bounds}
use Rattle.theory_built.specs.Structure.{count, count-top}
use Rattle.theory_built.specs.Pairs.{offset}
use Rattle.theory_built.specs.Shape.{counted_places, counted-place, length-places, tree-length}
use Rattle.theory_built.specs.ReadBack.{read-layout, read-text_length, read-counted_count, read-settings, read-level_count, read-level_offset}
use Rattle.theory_built.specs.ReadBack.{read-no-count, read-no-offset, read-leaf_offset, read-leaf_count, read-record_size, read-full_length}

module _ (S : Settings) (T : List ℕ) (h : Taken S T) where
  abbrev t : List ℕ
  t = tree_of S T

  limits : BuiltBounds S T
  limits = bounds S T h

  -- The places for counted bytes that are not used.
  unused : (x : ℕ) → x < max_counted - length S.counted → get_or t (counted_at + length S.counted + x) 0 ≡ 0
  unfolding counted_places
  unused x l =
      let e : counted_at + length S.counted + x ≡ counted_at + (length S.counted + x) = omega arith in
      rw e (counted-place S T h (length S.counted + x)
      ∙ get_or-append (counted_places S T) _ 0 (length S.counted + x) (omega (arith, length-places S T h))
      ∙ get_or-append-add S.counted (replicate (max_counted - length S.counted) 0) x 0
      ∙ get_or-replicate (max_counted - length S.counted) x 0 0 l)

  counts_are : (l : ℕ) → l ≤ S.levels → sum_below l (at.level_count t) ≡ sum_below l (count S T)
  counts_are l e = sum_below-ext l _ _ (λ i il. read-level_count S T h i (omega arith))

  offset_read : (l : ℕ) → l ≤ S.levels → offset S T l ≡ header_length + sum_below l (at.level_count t) * at.record_size t
  unfolding offset
  offset_read l e = rw (counts_are l e, read-record_size S T h)

  -- The parts of question 7, in its order.

  text-ok : length_ok (at.text_length t) ≡ true
  text-ok = rw (read-text_length S T h) h.length-ok

  settings-ok : sizes_ok (at.settings t) ≡ true
  settings-ok = rw (read-settings S T h) h.sizes-ok

  few-counted : leb (at.counted_count t) max_counted ≡ true
  few-counted = rw (read-counted_count S T h) (le-leb _ _ limits.counted_high)

  counted-rise : counted_ok (at.settings t).counted ≡ true
  counted-rise = rw (ap (λ (s : Settings). s.counted) (read-settings S T h)) h.counted-ok

  places-zero : all_below (max_counted - at.counted_count t) (λ x. eqb (get_or t (counted_at + at.counted_count t + x) 0) 0) ≡ true
  places-zero = rw (read-counted_count S T h) (all_below-make _ _ (λ x l. eq-eqb _ _ (unused x l)))

  levels-are : (at.settings t).levels ≡ S.levels
  levels-are = ap (λ (s : Settings). s.levels) (read-settings S T h)

  pairs-zero : all_below (max_levels - (at.settings t).levels)
      (λ x. eqb (at.level_count t ((at.settings t).levels + x)) 0 && eqb (at.level_offset t ((at.settings t).levels + x)) 0) ≡ true
  pairs-zero = rw levels-are (all_below-make _ _ (λ x l. and_both
      (eq-eqb _ _ (read-no-count S T h (S.levels + x) (omega arith) (omega arith)))
      (eq-eqb _ _ (read-no-offset S T h (S.levels + x) (omega arith) (omega arith)))))

  top_count : eqb (at.level_count t 0) (pieces (at.text_length t) (at.full_length t 0)) ≡ true
  top_count = rw (read-level_count S T h 0 limits.levels_low, read-text_length S T h, read-full_length S T h 0) (eq-eqb _ _ (count-top S T h))

  offsets : all_below (at.settings t).levels (λ l. eqb (at.level_offset t l) (header_length + sum_below l (at.level_count t) * at.record_size t)) ≡ true
  offsets = rw levels-are (all_below-make _ _ (λ l e. eq-eqb _ _ (read-level_offset S T h l e ∙ offset_read l (omega arith))))

  leaf-offset : eqb (at.leaf_offset t) (header_length + sum_below (at.settings t).levels (at.level_count t) * at.record_size t) ≡ true
  leaf-offset = rw levels-are (eq-eqb _ _ (read-leaf_offset S T h ∙ offset_read S.levels (omega arith)))

  whole_length : eqb (length t) (at.leaf_offset t + at.leaf_count t) ≡ true
  whole_length = rw (read-leaf_offset S T h, read-leaf_count S T h) (eq-eqb _ _ (tree-length S T h))

  pub header_ok : at.is_header_ok t ≡ true
  unfolding at.is_header_ok
  header_ok =
      and_both (and_both (and_both (and_both (and_both (and_both (and_both (and_both text-ok settings-ok) (and_both few-counted counted-rise))
      places-zero) pairs-zero) top_count) offsets) leaf-offset) whole_length

  pub long-enough : at.holds_header t ≡ true
  unfolding at.holds_header offset
  long-enough = rw (tree-length S T h) (le-leb header_length (offset S T S.levels + length (leaf_bytes S T)) (omega arith))

  pub layout-ok : at.layout_ok t ≡ true
  unfolding at.layout_ok
  layout-ok = rw (read-layout S T h)

  -- The built tree is read by every question.
  pub built-header : header_result t ≡ 0
  unfolding header_result
  built-header = rw (long-enough, layout-ok, header_ok)
