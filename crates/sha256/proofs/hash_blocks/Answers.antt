use Rattle.std.proofs.Common.{refl}
use Rattle.sha256.specs.Sha256.{constants, state_after}
use Rattle.sha256.proofs.CompressionLaws.{state-more}
use Rattle.sha256.proofs.hash_blocks.Goals as goal

pub loop-i-init : goal.loop-i-init
unfolding constants state_after
loop-i-init c = (refl, refl)

pub loop-i-preserved : goal.loop-i-preserved
loop-i-preserved c = (c.loop-i.invariant.0, state-more _ _ _ _ _ c.loop-i.invariant.1 c.compress-v.ensures)
