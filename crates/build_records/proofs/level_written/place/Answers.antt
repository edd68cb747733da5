use Prim.Native.Nat.{ℕ, ◌+◌, ◌*◌}
use mathlib.Core.Path.{ap}
use native.Mathlib.Omega.{arith}
use Rattle.build_records.proofs.LevelWrittenLaws.{records-end}
use Rattle.build_records.proofs.level_written.place.Goals as goal

pub overflow_mul-result : goal.overflow_mul-result
overflow_mul-result c = omega (arith, records-end c.args.block.0 _ c.requires.2 c.record_size.ensures.2)

pub overflow_add-result : goal.overflow_add-result
overflow_add-result c = omega (arith, c.requires.1, records-end c.args.block.0 _ c.requires.2 c.record_size.ensures.2)

pub returns : goal.returns
returns c = (
  ap (λ (x : ℕ). c.args.level.table + c.args.block.0 * x) c.record_size.ensures.0,
  omega (arith, c.requires.1, records-end c.args.block.0 _ c.requires.2 c.record_size.ensures.2),
)
