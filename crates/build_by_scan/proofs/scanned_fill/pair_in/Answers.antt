use native.Mathlib.Omega.{arith}
use Rattle.scan_hash_table.specs.Entries.{item_place_in}
use Rattle.build_marking.proofs.PairLaws as pairs
use Rattle.build_records.proofs.RecordsRead.{start_fits, start-read, start-in}
use Rattle.build_records.proofs.StateLaws.{record-few}
use Rattle.build_by_scan.proofs.TableGivesMarking as laws
use Rattle.build_by_scan.proofs.scanned_fill.pair_in.Goals as goal

pub returns-then-i-level : goal.returns-then-i-level
unfolding item_place_in
returns-then-i-level c = pairs.apart-end _ _ _ _ _ c.requires.0 c.if-i-level.true

pub start-start-requires : goal.start-start-requires
unfolding item_place_in
start-start-requires c = let f = record-few _ _ _ c.requires.0.level_is in
    (f.counted_few, f.table_few, omega (arith, c.requires.0.block_in, f.count_few), f.leaf_few, start_fits _ _ _ _ _ c.requires.0 _ c.requires.0.block_in)

pub start-next-requires : goal.start-next-requires
unfolding item_place_in
start-next-requires c = let f = record-few _ _ _ c.requires.0.level_is in (
  f.counted_few,
  f.table_few,
  omega (arith, c.requires.0.block_in, f.count_few),
  f.leaf_few,
  start_fits _ _ _ _ _ c.requires.0 _ (omega (arith, c.requires.0.block_in, c.if-i-level.false)),
)

pub overflow_add-start : goal.overflow_add-start
unfolding item_place_in
overflow_add-start c = let f = record-few _ _ _ c.requires.0.level_is in
    omega (arith, f.size_few, f.text_few, c.start-start.ensures, start-read _ _ _ _ _ c.requires.0 _ c.requires.0.block_in, start-in _ _ _ _ _ c.requires.0 _ c.requires.0.block_in)

pub returns-then-next-start : goal.returns-then-next-start
unfolding item_place_in
returns-then-next-start c = pairs.apart-far _ _ _ _ _ c.requires.0
    _ _ c.start-start.ensures c.if-i-level.false c.start-next.ensures (λ e. omega (arith, c.if-next-start.true))

pub bounds-words-i : goal.bounds-words-i
unfolding item_place_in
bounds-words-i c = omega (arith, c.requires.1.room, laws.block_here _ _ _ _ _ c.requires.0 _ c.requires.1, c.if-i-level.false, c.requires.0.block_in, c.requires.0.level_is.count_is)

pub returns-then-words-i : goal.returns-then-words-i
unfolding item_place_in
returns-then-words-i c = laws.again-answered _ _ _ _ _ c.requires.0 _ c.requires.1 _ _ c.start-start.ensures c.if-i-level.false
    c.start-next.ensures (omega (arith, c.if-next-start.false)) (λ e. omega (arith, c.if-words-i.true, e))

pub returns : goal.returns
unfolding item_place_in
returns c = laws.first-answered _ _ _ _ _ c.requires.0 _ c.requires.1 _ _
    c.start-start.ensures c.if-i-level.false c.start-next.ensures (omega (arith, c.if-next-start.false)) c.if-words-i.false
