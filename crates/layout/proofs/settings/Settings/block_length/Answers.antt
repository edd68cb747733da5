use Prim.Native.Nat.{ℕ, ◌*◌, ◌^◌, ◌-◌, ◌≤◌, ◌<◌}
use mathlib.Core.Path.{◌≡◌}
use native.Mathlib.Nat.{mul-le-mul_left, pow-le-pow_right}
use native.Mathlib.Omega.{arith}
use Rattle.format.specs.Layout.{max_text, min_arity}
use Rattle.layout.proofs.settings.Settings.block_length.Goals as goal

small : (m r H l b : ℕ) → min_arity ≤ r → m * r ^ (H - 1) ≤ max_text → b ≡ m * r ^ (H - 1 - l) → b < 4294967296
small m r H l b low high e =
    let one : 1 ≤ r = omega arith in
    let fall : H - 1 - l ≤ H - 1 = omega arith in
    omega (arith, mul-le-mul_left m (pow-le-pow_right one fall))

pub overflow_cast-result : goal.overflow_cast-result
overflow_cast-result c = record { fits = small _ _ _ _ _ c.requires.bounds.arity_low c.requires.bounds.top_high c.power-b.ensures }
