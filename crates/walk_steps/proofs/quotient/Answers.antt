use mathlib.Core.Path.{◌≡◌, sym, ap, ◌∙◌}
use Prim.Native.Nat.{ℕ, ◌*◌, ◌/◌, ◌%◌, ◌^◌, ◌≤◌, ◌<◌}
use native.Mathlib.Omega.{arith}
use native.Mathlib.Nat.{one-mul, mod-eq_of_lt, pow-le-pow_right, div-le_self}
use lib.Dec.{lit<}
use lib.Count.{count_trailing_zeros, trailing_le}
use Rattle.walk_steps.proofs.quotient.Goals as goal

power-is : (k : ℕ) → k ≤ 32 → 1 * 2 ^ k % 18446744073709551616 ≡ 2 ^ k
power-is k h =
    let small : 2 ^ k ≤ 4294967296 = pow-le-pow_right (lit< tt) h in
    let less : 2 ^ k < 18446744073709551616 = omega arith in
    rw (one-mul (2 ^ k)) (mod-eq_of_lt less)

pub overflow_cast-power : goal.overflow_cast-power
overflow_cast-power c = record { fits = omega (arith, trailing_le 32 c.args.b) }

pub overflow_shl-power : goal.overflow_shl-power
overflow_shl-power c = omega (arith, trailing_le 32 c.args.b)

pub overflow_cast-result-then-power-b : goal.overflow_cast-result-then-power-b
overflow_cast-result-then-power-b c = record { fits = omega (arith, trailing_le 32 c.args.b) }

pub overflow_shr-result : goal.overflow_shr-result
overflow_shr-result c = omega (arith, trailing_le 32 c.args.b)

pub overflow_cast-result-then-power-b-2 : goal.overflow_cast-result-then-power-b-2
overflow_cast-result-then-power-b-2 c = record { fits = omega (arith, c.ranges.x.fits, div-le_self c.args.x (2 ^ count_trailing_zeros 32 c.args.b)) }

pub returns-then-power-b : goal.returns-then-power-b
returns-then-power-b c = ap (λ (y : ℕ). c.args.x / y) (sym (power-is _ (trailing_le 32 c.args.b)) ∙ c.if-power-b.true)
