use Rattle.walk_group.proofs.GroupLaws as laws
use Rattle.walk_group.proofs.top_positions.Given as goal

abbrev pub invariant-loop-k : goal.invariant-loop-k
invariant-loop-k l = laws.TopUpTo l.p.first l.p.stride l.b l.initial.blocks l.initial.places l.blocks l.places l.k
