use Prim.Native.Nat.{◌+◌, ◌-◌, ◌*◌, ◌/◌}
use mathlib.Core.Path.{◌≡◌}
use native.Mathlib.Omega.{arith}
use Rattle.format.specs.Layout as at
use Rattle.query_select.proofs.SeekLaws as laws
use Rattle.query_select.proofs.seek.by_fours.Goals as goal

pub loop-k-init : goal.loop-k-init
loop-k-init c = λ x low high. absurd (let z : ⊥ = omega arith in z)

pub returns-then-j-most : goal.returns-then-j-most
returns-then-j-most c = (record { low = omega arith; high = omega arith; passed = c.loop-k.invariant }, omega arith)

pub loop-k-preserved : goal.loop-k-preserved
loop-k-preserved c =
    let first = c.args.blocks.first.0 in
    let e : first + 4 * (c.loop-k.k + 1) ≡ first + 4 * c.loop-k.k + 4 = omega arith in
    rw e (laws.four-passed (λ k. at.before _ _ k _) _ _ _ _ c.loop-k.invariant c.largest_before-most.ensures (omega (arith, c.if-j-most.false)))

pub returns : goal.returns
returns c =
    let e : c.loop-k.k ≡ (c.args.blocks.end.0 - c.args.blocks.first.0 - 1) / 4 = omega arith in
    (record { low = omega arith; high = omega arith; passed = rw e at c.loop-k.invariant }, omega arith)
