use Rattle.std.proofs.Common.{refl, arith}
use Rattle.sha256.specs.Sha256.{rounds}
use Rattle.sha256.proofs.CompressionLaws.{sixty-four, rounds-more}
use Rattle.sha256.proofs.compression.all_rounds.Goals as goal

pub loop-i-init : goal.loop-i-init
unfolding rounds
loop-i-init c = refl

pub bounds-k-i : goal.bounds-k-i
bounds-k-i c = omega (arith, sixty-four _ c.requires.0)

pub bounds-words-i : goal.bounds-words-i
bounds-words-i c = omega (arith, c.requires.1)

pub loop-i-preserved : goal.loop-i-preserved
loop-i-preserved c = rounds-more _ _ _ _ _ _ c.requires.0 c.loop-i.invariant c.one_round-v.ensures
