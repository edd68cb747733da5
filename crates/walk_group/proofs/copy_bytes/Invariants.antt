use Rattle.walk_group.proofs.GroupLaws as laws
use Rattle.walk_group.proofs.copy_bytes.Given as goal

abbrev pub invariant-loop-k : goal.invariant-loop-k
invariant-loop-k l = laws.BytesUpTo l.t l.blocks l.places l.part.to l.initial.buffer l.buffer l.k
