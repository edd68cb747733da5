use Prim.Native.Nat.{ℕ, ◌*◌, ◌%◌, ◌^◌}
use mathlib.Core.Path.{◌≡◌, sym, ap, ◌∙◌}
use native.Mathlib.Omega.{arith}
use native.Mathlib.Nat.{mod-lt, pow-zero}
use Rattle.scan_rolling_hash.specs.Fingerprints.{base_of}
use Rattle.scan_rolling_hash.proofs.WindowFingerprintLaws.{base-below, power-next}
use Rattle.scan_rolling_hash.proofs.power.Goals as goal

pub loop-init : goal.loop-init
loop-init c = sym (ap (λ (y : ℕ). y % 2147483647) (pow-zero (base_of c.args.seed)))

pub push_power-w-requires : goal.push_power-w-requires
push_power-w-requires c = (
  omega (arith, c.base_of-base.ensures, base-below c.args.seed),
  omega (arith, c.loop.invariant, mod-lt (base_of c.args.seed ^ c.loop.counter) {m = 2147483647} (omega arith)),
)

pub loop-preserved : goal.loop-preserved
loop-preserved c =
    c.push_power-w.ensures ∙ ap (λ (k : ℕ). c.loop.w * k % 2147483647) c.base_of-base.ensures
    ∙ power-next c.args.seed c.loop.w c.loop.counter c.loop.invariant

pub returns : goal.returns
returns c = let e : c.loop.counter ≡ c.args.n = omega arith in rw e at c.loop.invariant
