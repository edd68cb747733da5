use Rattle.std.proofs.Common.{refl, ◌∙◌, arith}
use Rattle.layout.proofs.SettingsLaws.{more, fall, done}
use Rattle.layout.proofs.settings.rises.Goals as goal

pub loop-i-init : goal.loop-i-init
loop-i-init c = refl

pub returns-then-s-i : goal.returns-then-s-i
returns-then-s-i c = fall c.args.s.now c.loop-i.i (omega arith) c.loop-i-test.true c.if-s-i.true ∙ c.loop-i.invariant

pub loop-i-preserved : goal.loop-i-preserved
loop-i-preserved c = more c.args.s.now c.loop-i.i (omega arith) c.loop-i-test.true c.if-s-i.false ∙ c.loop-i.invariant

pub returns : goal.returns
returns c = done c.args.s.now c.loop-i.i (omega arith) c.loop-i-test.false ∙ c.loop-i.invariant
