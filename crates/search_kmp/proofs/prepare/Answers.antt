use Rattle.std.proofs.Common.{ℕ, refl, arith}
use Rattle.std.proofs.Math.ListN.{length-set}
use Rattle.search_kmp.proofs.BorderLaws as laws
use Rattle.search_kmp.proofs.prepare.Goals as goal

pub loop-i-init : goal.loop-i-init
loop-i-init c = laws.filling-start _ c.args.borders.now (omega (arith, c.requires.0, c.requires.2))

pub advance-k-requires : goal.advance-k-requires
advance-k-requires c = let small = laws.filling-small _ _ _ _ c.loop-i.invariant in
    (omega (arith, small), omega (arith, length-set {A = ℕ}), laws.borders-fewer _ _ _ _ c.loop-i.invariant.borders (omega (arith, small)))

pub overflow_cast-borders : goal.overflow_cast-borders
overflow_cast-borders c = omega (arith, laws.filling-next _ _ _ _ c.loop-i.invariant _ _ refl c.advance-k.ensures.2, c.requires.1)

pub loop-i-preserved : goal.loop-i-preserved
loop-i-preserved c = laws.filling-more _ _ _ _ c.loop-i.invariant (omega (arith, length-set {A = ℕ})) _ _ refl c.advance-k.ensures.2

pub returns : goal.returns
returns c = laws.borders-fewer _ _ _ _ c.loop-i.invariant.borders (omega arith)
