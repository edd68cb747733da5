use Rattle.std.proofs.Common.{arith}
use Rattle.byte_slices.proofs.ByteSliceLaws as laws
use Rattle.text.proofs.CountTheorems.{count_none}
use Rattle.byte_slices.proofs.find_nth.Goals as goal

pub loop-init : goal.loop-init
loop-init c = (omega arith, omega (arith, count_none c.args.byte c.args.t.now c.args.from))

-- Fewer than j occurrences.
pub returns-then-size-i : goal.returns-then-size-i
returns-then-size-i c =
    laws.nth-none _ _ _ _ (omega arith) _ _ c.loop.invariant.0 c.find-k.ensures _ (omega arith) (omega (arith, c.loop.invariant.1))

-- One occurrence more is passed.
pub loop-preserved : goal.loop-preserved
loop-preserved c = (
  omega arith,
  omega (arith, c.loop.invariant.1, laws.count_past _ _ _ _ (omega arith) _ _ c.loop.invariant.0 c.find-k.ensures (omega arith)),
)

-- The j-th occurrence is the next one.
pub returns : goal.returns
returns c =
    laws.nth-first _ _ _ _ (omega arith) _ _ c.loop.invariant.0 c.find-last.ensures _ (omega (arith, c.loop.invariant.1))
