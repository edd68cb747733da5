use native.Mathlib.Omega.{arith}
use Rattle.build_marking.proofs.PairLaws as laws
use Rattle.build_records.proofs.RecordsRead.{start_fits, start-read, start-in}
use Rattle.build_records.proofs.StateLaws.{record-few}
use Rattle.build_marking.proofs.pair.pair_after.Goals as goal

pub returns-then-level : goal.returns-then-level
returns-then-level c = laws.apart-last _ _ _ _ _ c.requires c.if-level.true

pub returns-then-i-level : goal.returns-then-i-level
returns-then-i-level c = laws.apart-end _ _ _ _ _ c.requires c.if-i-level.true

pub start-start-requires : goal.start-start-requires
start-start-requires c = let f = record-few _ _ _ c.requires.level_is in
    (f.counted_few, f.table_few, omega (arith, c.requires.block_in, f.count_few), f.leaf_few, start_fits _ _ _ _ _ c.requires _ c.requires.block_in)

pub start-next-requires : goal.start-next-requires
start-next-requires c = let f = record-few _ _ _ c.requires.level_is in (
  f.counted_few,
  f.table_few,
  omega (arith, c.requires.block_in, f.count_few),
  f.leaf_few,
  start_fits _ _ _ _ _ c.requires _ (omega (arith, c.requires.block_in, c.if-i-level.false)),
)

pub overflow_add-start : goal.overflow_add-start
overflow_add-start c = let f = record-few _ _ _ c.requires.level_is in omega (
  arith,
  f.size_few,
  f.text_few,
  c.start-start.ensures,
  start-read _ _ _ _ _ c.requires _ c.requires.block_in,
  start-in _ _ _ _ _ c.requires _ c.requires.block_in,
)

pub returns-then-next-start : goal.returns-then-next-start
returns-then-next-start c = laws.apart-far _ _ _ _ _ c.requires
    _ _ c.start-start.ensures c.if-i-level.false c.start-next.ensures (λ e. omega (arith, c.if-next-start.true))

pub pair_at-requires : goal.pair_at-requires
pair_at-requires c = let f = record-few _ _ _ c.requires.level_is in (
  omega (
    arith,
    c.start-start.ensures,
    start-read _ _ _ _ _ c.requires _ c.requires.block_in,
    start-in _ _ _ _ _ c.requires _ c.requires.block_in,
  ),
  f.text_few,
  f.size_few,
)

pub returns : goal.returns
returns c = laws.pair_is _ _ _ _ _ c.requires _ _ c.start-start.ensures c.if-i-level.false
    c.start-next.ensures c.if-level.false (omega (arith, c.if-next-start.false)) _ c.pair_at.ensures
