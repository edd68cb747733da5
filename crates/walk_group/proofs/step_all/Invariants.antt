use Rattle.walk_group.proofs.GroupLaws as laws
use Rattle.walk_group.proofs.step_all.Given as goal

abbrev pub invariant-loop-k : goal.invariant-loop-k
invariant-loop-k l = laws.StepsUpTo l.t l.on.level l.initial.blocks l.initial.places l.blocks l.places l.k
