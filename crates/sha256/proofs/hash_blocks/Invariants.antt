use Rattle.std.proofs.Common.{◌≡◌}
use Rattle.sha256.specs.Sha256.{constants, state_after}
use Rattle.sha256.proofs.hash_blocks.Given as goal

abbrev pub invariant-loop-i : goal.invariant-loop-i
invariant-loop-i l = (l.k ≡ constants) × (l.v ≡ state_after l.initial.v l.bytes l.i)
