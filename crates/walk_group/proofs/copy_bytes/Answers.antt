use Rattle.walk_group.proofs.GroupLaws as laws
use Rattle.walk_group.proofs.copy_bytes.Goals as goal

pub returns-in_default : goal.returns-in_default
returns-in_default c = laws.bytes-off _ _ _ _ _ _ _ c.loop-k.invariant _ c.leaf_byte-found.ensures c.in_default.is _ c.loop-k-test.true

pub loop-k-preserved : goal.loop-k-preserved
loop-k-preserved c = laws.bytes-more _ _ _ _ _ _ _ c.loop-k.invariant _ c.leaf_byte-found.ensures _ c.in-Some.is
