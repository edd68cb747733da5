use mathlib.Core.Path.{refl, ◌∙◌}
use native.Mathlib.Omega.{arith}
use Rattle.byte_slices.proofs.SameLaws.{bytes-differ, bytes-agree, bytes-over}
use Rattle.byte_slices.proofs.ByteSliceLaws.{lengths_differ}
use Rattle.byte_slices.proofs.equal.Goals as goal

pub returns-then-a-b : goal.returns-then-a-b
returns-then-a-b c = lengths_differ _ _ c.if-a-b.true

pub loop-i-init : goal.loop-i-init
loop-i-init c = refl

pub returns-then-a-i : goal.returns-then-a-i
returns-then-a-i c = bytes-differ c.args.a.now c.args.b.now c.loop-i.i (omega arith) (omega arith) c.if-a-i.true ∙ c.loop-i.invariant

pub loop-i-preserved : goal.loop-i-preserved
loop-i-preserved c = bytes-agree c.args.a.now c.args.b.now c.loop-i.i (omega arith) (omega arith) c.if-a-i.false ∙ c.loop-i.invariant

pub returns : goal.returns
returns c = bytes-over c.args.a.now c.args.b.now c.loop-i.i (omega arith) (omega arith) ∙ c.loop-i.invariant
