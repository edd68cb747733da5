use mathlib.Core.Path.{refl}
use native.Mathlib.Omega.{arith}
use Rattle.format.specs.Layout as at
use Rattle.walk_ranges.proofs.LeafEndLaws as laws
use Rattle.walk_ranges.proofs.leaf_end.joined.Goals as goal

pub loop-next-init : goal.loop-next-init
loop-next-init c = record {
  whole = omega (arith, laws.steps-one c.args.end.block.0 (at.settings c.args.t.now).leaf, c.requires.0.leaf_is, c.requires.1.place-in);
  near = omega (arith, c.requires.0.leaf_is);
  joined = laws.join_first _ _ c.requires.0 _ c.requires.1 _ refl;
}

pub returns-then-most-n : goal.returns-then-most-n
returns-then-most-n c = c.loop-next.invariant.joined

pub loop-next-preserved : goal.loop-next-preserved
loop-next-preserved c = record {
  whole = omega (
    arith,
    laws.steps-more c.args.end.block.0 c.loop-next.next (at.settings c.args.t.now).leaf (omega (arith, c.loop-next.auto.next)),
    c.loop-next.invariant.whole,
    c.requires.0.leaf_is,
  );
  near = omega (arith, c.requires.0.leaf_is);
  joined = rw c.requires.0.leaf_is (laws.join-next _ _ c.requires.0 _ c.requires.1 _ _ (omega (arith, c.loop-next.auto.next)) c.loop-next.invariant.joined
      c.loop-next.invariant.whole _ c.follows.ensures c.if-not-follows.false);
}

pub returns : goal.returns
returns c = c.loop-next.invariant.joined
