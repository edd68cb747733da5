use native.Mathlib.Omega.{arith}
use mathlib.Core.Path.{◌≡◌, ap, ◌∙◌}
use Prim.Native.Nat.{ℕ, ◌-◌, ◌%◌, ◌^◌}
use Rattle.scan_rolling_hash.specs.Fingerprints.{base_of}
use Rattle.scan_pass.proofs.enter.pair_power.Goals as goal

pub overflow_add-size : goal.overflow_add-size
overflow_add-size c = omega (arith, c.requires.1)

pub returns-then-n-size : goal.returns-then-n-size
returns-then-n-size c = c.requires.2
    ∙ ap (λ (k : ℕ). base_of c.args.seed ^ k % 2147483647) (let e : c.args.size ≡ c.args.n - c.args.size = omega (arith, c.if-n-size.true) in e)
