use Rattle.layout.proofs.ShapeLaws as laws
use Rattle.layout.proofs.fields.shape_of.Goals as goal

pub returns : goal.returns
returns c = laws.shape_is
    _ _ _ _ _ _ c.read.ensures c.read-2.ensures c.read-3.ensures c.read-4.ensures c.read-5.ensures
