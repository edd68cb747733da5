use mathlib.Core.List.{List}
use mathlib.Core.Bool.{true}
use mathlib.Core.Path.{◌≡◌, sym, ap, ◌∙◌}
use Prim.Native.Nat.{ℕ, ◌≤◌}
use Rattle.format.specs.Layout.{word_at, text_length_at, leaf_offset_at, leaf_count_at, max_text}
use Rattle.format.specs.Layout as at
use Rattle.layout.specs.declared.header.Header.{Header}
use Rattle.layout.specs.Header.{HasSettings, fields_of, spare_counted, spare_levels}
use Rattle.layout.proofs.HeaderLaws as laws
use Rattle.layout.proofs.AnswerTests.{failed, held}
use Rattle.layout.proofs.header.rest_right.Goals as goal

-- The fields of a header are the words of the tree.
module _ (t : List ℕ) (h : Header) (e : h ≡ fields_of t) where
  n-is : h.text_length ≡ word_at t text_length_at
  n-is = ap (λ (x : Header). x.text_length) e

  b_is : h.top_length ≡ at.full_length t 0
  b_is = ap (λ (x : Header). x.top_length) e

  size_is : h.record_size ≡ at.record_size t
  size_is = ap (λ (x : Header). x.record_size) e

  offset_is : h.leaf_offset ≡ word_at t leaf_offset_at
  offset_is = ap (λ (x : Header). x.leaf_offset) e

  count_is : h.leaf_count ≡ word_at t leaf_count_at
  count_is = ap (λ (x : Header). x.leaf_count) e

  n-high : HasSettings t h.settings → h.text_length ≤ max_text
  n-high s = rw n-is s.bounds.text_high

pub spare_counted_zero-requires : goal.spare_counted_zero-requires
spare_counted_zero-requires c = (c.requires.0.long, c.requires.0.bounds.counted_high)

pub returns-then-not-spare_counted_zero : goal.returns-then-not-spare_counted_zero
returns-then-not-spare_counted_zero c = laws.rest-counted _ _ c.requires.0 (failed c.spare_counted_zero.ensures c.if-not-spare_counted_zero.true-raw)

pub spare_levels_zero-requires : goal.spare_levels_zero-requires
spare_levels_zero-requires c = (c.requires.0.long, c.requires.0.bounds.levels_high)

pub returns-then-not-spare_levels_zero : goal.returns-then-not-spare_levels_zero
returns-then-not-spare_levels_zero c =
    laws.rest-levels _ _ c.requires.0 (held c.spare_counted_zero.ensures c.if-not-spare_counted_zero.false-raw)
    (failed c.spare_levels_zero.ensures c.if-not-spare_levels_zero.true-raw)

pub pieces-requires : goal.pieces-requires
pieces-requires c =
    let b = laws.block-bounds _ _ c.requires.0 _ (b_is _ _ c.requires.1) in
    (n-high _ _ c.requires.1 c.requires.0, b.0, b.1)

pub returns-then-count-pieces : goal.returns-then-count-pieces
returns-then-count-pieces c =
    laws.rest-level0 _ _ c.requires.0 (held c.spare_counted_zero.ensures c.if-not-spare_counted_zero.false-raw)
    (held c.spare_levels_zero.ensures c.if-not-spare_levels_zero.false-raw) _ _ _ c.read-count.ensures
    (n-is _ _ c.requires.1) (b_is _ _ c.requires.1) (λ e. c.if-count-pieces.true (e ∙ sym c.pieces.ensures))

pub tables_meet-requires : goal.tables_meet-requires
tables_meet-requires c =
    let s = size_is _ _ c.requires.1 in
    (c.requires.0.long, c.requires.0.bounds.levels_high, s, laws.size-high _ _ c.requires.0 _ s)

pub returns-then-not-tables_meet : goal.returns-then-not-tables_meet
returns-then-not-tables_meet c =
    let spare-counted : spare_counted c.args.t.now c.args.h.settings.counted ≡ true = held c.spare_counted_zero.ensures c.if-not-spare_counted_zero.false-raw in
    let spare-levels : spare_levels c.args.t.now c.args.h.settings.levels ≡ true = held c.spare_levels_zero.ensures c.if-not-spare_levels_zero.false-raw in
    laws.rest-tables _ _ c.requires.0 spare-counted spare-levels _ _ _ c.read-count.ensures (n-is _ _ c.requires.1) (b_is _ _ c.requires.1)
    (c.if-count-pieces.false ∙ c.pieces.ensures) (failed c.tables_meet.ensures c.if-not-tables_meet.true-raw)

pub returns : goal.returns
returns c =
    let spare-counted : spare_counted c.args.t.now c.args.h.settings.counted ≡ true = held c.spare_counted_zero.ensures c.if-not-spare_counted_zero.false-raw in
    let spare-levels : spare_levels c.args.t.now c.args.h.settings.levels ≡ true = held c.spare_levels_zero.ensures c.if-not-spare_levels_zero.false-raw in
    laws.rest-length _ _ c.requires.0 spare-counted spare-levels _ _ _ c.read-count.ensures (n-is _ _ c.requires.1) (b_is _ _ c.requires.1)
    (c.if-count-pieces.false ∙ c.pieces.ensures) (held c.tables_meet.ensures c.if-not-tables_meet.false-raw) _ _ (offset_is _ _ c.requires.1) (count_is _ _ c.requires.1)
