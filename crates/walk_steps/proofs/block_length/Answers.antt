use native.Mathlib.Omega.{arith}
use Rattle.layout.proofs.ShapeLaws.{shapes}
use Rattle.walk_steps.proofs.StepLaws as laws
use Rattle.walk_steps.proofs.block_length.Goals as goal

pub start-start-requires : goal.start-start-requires
start-start-requires c = laws.field-there _ _ _ _ _ 0 c.requires.on c.requires.block_in (omega arith)

pub returns : goal.returns
returns c = laws.length_is _ _ _ _ _ _ _ c.requires c.start-start.ensures
    (shapes _ _ c.shape_of-shape.ensures).length_is _ c.length_from.ensures
