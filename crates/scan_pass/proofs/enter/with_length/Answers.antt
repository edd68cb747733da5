use native.Mathlib.Omega.{arith}
use Rattle.scan_pass.proofs.LengthsOfLaws as laws
use Rattle.scan_pass.proofs.enter.with_length.Goals as goal

pub returns-then-n-eq0 : goal.returns-then-n-eq0
returns-then-n-eq0 c = laws.lengths_none _ _ _ c.if-n-eq0.true

pub returns-then-n-size : goal.returns-then-n-size
returns-then-n-size c = laws.lengths_short _ _ _ c.if-n-eq0.false c.if-n-size.true

pub returns-then-n-size-2 : goal.returns-then-n-size-2
returns-then-n-size-2 c = laws.lengths-full _ _ _ c.if-n-eq0.false c.if-n-size.false c.if-n-size-2.true

pub overflow_add-size : goal.overflow_add-size
overflow_add-size c = omega (arith, c.requires)

pub returns-then-n-size-3 : goal.returns-then-n-size-3
returns-then-n-size-3 c = laws.lengths-both _ _ _ c.if-n-eq0.false c.if-n-size.false c.if-n-size-2.false c.if-n-size-3.true

pub returns : goal.returns
returns c = laws.lengths-cut _ _ _ c.if-n-eq0.false c.if-n-size.false c.if-n-size-2.false c.if-n-size-3.false
