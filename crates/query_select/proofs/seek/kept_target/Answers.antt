use native.Mathlib.Omega.{arith}
use Rattle.walk_steps.proofs.StepLaws.{field-there}
use Rattle.query_select.proofs.LandLaws as laws
use Rattle.query_select.proofs.seek.kept_target.Goals as goal

pub kind-kind-requires : goal.kind-kind-requires
kind-kind-requires c = field-there _ _ _ _ _ 1 c.requires.on c.requires.block_in (omega arith)

pub returns-then-kind-eq0 : goal.returns-then-kind-eq0
returns-then-kind-eq0 c = laws.target_kept _ _ _ _ _ _ c.requires.block_in c.kind-kind.ensures c.if-kind-eq0.true

pub returns : goal.returns
returns c = laws.target-other _ _ _ _ _ _ c.requires.block_in c.kind-kind.ensures c.if-kind-eq0.false
