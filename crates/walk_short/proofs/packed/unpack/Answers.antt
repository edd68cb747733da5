use mathlib.Core.Path.{sym}
use Rattle.walk_short.proofs.PackedLaws as laws
use Rattle.walk_short.proofs.packed.unpack.Goals as goal

pub returns-then-code-eq0 : goal.returns-then-code-eq0
returns-then-code-eq0 c = sym (laws.unpacked-none _ _ c.if-code-eq0.true)

pub returns-then-code-eq0-2 : goal.returns-then-code-eq0-2
returns-then-code-eq0-2 c = laws.unpacked-one _ _ c.if-code-eq0.false c.if-code-eq0-2.true

pub returns : goal.returns
returns c = laws.unpacked-two _ _ c.if-code-eq0.false c.if-code-eq0-2.false _ _ c.requires.0 c.requires.1 c.requires.3
