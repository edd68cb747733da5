use Prim.Native.Nat.{ℕ, ◌≤◌, ◌*◌, ◌<◌, ◌^◌}
use mathlib.Core.Path.{refl}
use native.Mathlib.Nat.{mul-le-mul}
use native.Mathlib.Omega.{arith}
use Rattle.format.specs.SizeLaws.{max_record}
use Rattle.layout.proofs.header.table_bytes.Goals as goal

product : (n s : ℕ) → n < 2 ^ 32 → s ≤ max_record → n * s ≤ 2 ^ 32 * max_record
product n s a b = let c : n ≤ 2 ^ 32 = omega arith in mul-le-mul c b

pub overflow_mul-result : goal.overflow_mul-result
overflow_mul-result c = record { fits = omega (arith, product _ _ c.ranges.count.fits c.requires) }

pub returns : goal.returns
returns c = (refl, product _ _ c.ranges.count.fits c.requires)
