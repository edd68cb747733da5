use Prim.Native.Nat.{◌-◌}
use mathlib.Core.Path.{◌≡◌}
use native.Mathlib.Omega.{arith}
use Rattle.format.specs.Layout as at
use Rattle.query_select.proofs.SeekLaws as laws
use Rattle.query_select.proofs.seek.step_along.Goals as goal

pub loop-i-init : goal.loop-i-init
loop-i-init c = λ k low high. absurd (let z : ⊥ = omega arith in z)

pub before-next-requires : goal.before-next-requires
before-next-requires c = laws.select-field-there _ _ _ _ _ _ c.requires.facts c.requires.size_is c.requires.level_in (omega (arith, c.requires.end_in)) c.requires.number_in (omega arith)

pub returns-then-j-next : goal.returns-then-j-next
returns-then-j-next c = (
  laws.last-stop _ _ _ _ _ _ _ (omega (arith, c.by_fours-near.ensures.0.low)) (omega arith)
      (laws.passed-both (λ k. at.before _ _ k _) _ _ _ _ c.by_fours-near.ensures.0.passed c.loop-i.invariant) _ c.before-next.ensures c.if-j-next.true,
  omega (arith, c.by_fours-near.ensures.0.low, c.by_fours-near.ensures.1),
)

pub loop-i-preserved : goal.loop-i-preserved
loop-i-preserved c = laws.one-passed (λ k. at.before _ _ k _) _ _ _ c.loop-i.invariant (omega (arith, c.before-next.ensures))

pub returns : goal.returns
returns c =
    let e : c.loop-i.i ≡ c.args.blocks.end.0 - 1 = omega (arith, c.by_fours-near.ensures.0.high) in
    let way = rw e at c.loop-i.invariant in (
      laws.last_end _ _ _ _ _ _ _ (omega (arith, c.by_fours-near.ensures.0.low, c.by_fours-near.ensures.0.high)) (omega (arith, c.requires.present))
          (laws.passed-both (λ k. at.before _ _ k _) _ _ _ _ c.by_fours-near.ensures.0.passed way) (omega arith),
      omega (arith, c.by_fours-near.ensures.0.low, c.by_fours-near.ensures.0.high, c.by_fours-near.ensures.1),
    )
