use native.Mathlib.Omega.{arith}
use Rattle.query_compare.proofs.SideBySideLaws as laws
use Rattle.query_compare.proofs.side_by_side.by_places.Goals as goal

pub loop-m-init : goal.loop-m-init
loop-m-init c = laws.comparing-start _ _ c.requires.0.passes c.requires.1.passes

pub read_on-round-requires : goal.read_on-round-requires
read_on-round-requires c = (c.requires.0, c.requires.1, c.loop-m.invariant, omega (arith, c.loop-m-test.true, c.min-most.ensures))

pub loop-m-smaller : goal.loop-m-smaller
loop-m-smaller c = let z = laws.round-on _ _ _ _ c.read_on-round.ensures _ c.in-On.is in omega (arith, z.1, z.0.low)

pub loop-m-preserved : goal.loop-m-preserved
loop-m-preserved c = (laws.round-on _ _ _ _ c.read_on-round.ensures _ c.in-On.is).0

pub returns-in-Settled : goal.returns-in-Settled
returns-in-Settled c = laws.round-settled _ _ _ _ c.read_on-round.ensures _ c.in-Settled.is

pub returns : goal.returns
returns c = laws.compare-end _ _ _ c.loop-m.invariant
    (omega (arith, c.loop-m-test.false, c.min-most.ensures, c.requires.0.length_is, c.requires.1.length_is))
    _ _ c.requires.0.length_is c.requires.1.length_is _ c.by_length.ensures
