use Prim.Native.Nat.{ℕ, ◌*◌}
use mathlib.Core.Path.{ap}
use native.Mathlib.Omega.{arith}
use Rattle.layout.proofs.PowerLaws as laws
use Rattle.layout.proofs.settings.power.Goals as goal

pub overflow_mul-result : goal.overflow_mul-result
overflow_mul-result c = record { fits = omega (arith, laws.length-bound _ _ _ _ c.requires.0 c.requires.1 c.requires.2 c.arity_power.ensures) }

pub returns : goal.returns
returns c = ap (λ (x : ℕ). c.args.leaf * x) c.arity_power.ensures
