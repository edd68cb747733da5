use Rattle.layout.proofs.PowerLaws.{factor-none, factor-one}
use Rattle.layout.proofs.settings.factor.Goals as goal

pub returns-then-n-eq0 : goal.returns-then-n-eq0
returns-then-n-eq0 c = factor-none _ _ c.if-n-eq0.true

pub returns : goal.returns
returns c = factor-one _ _ c.if-n-eq0.false
