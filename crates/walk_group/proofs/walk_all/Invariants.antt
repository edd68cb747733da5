use Rattle.walk_steps.specs.Steps.{OnLevel}
use Rattle.walk_group.proofs.GroupLaws as laws
use Rattle.walk_group.proofs.walk_all.Given as goal

abbrev pub invariant-loop-level : goal.invariant-loop-level
invariant-loop-level l = OnLevel l.t l.size l.level l.b × laws.LevelsUpTo l.t l.n l.initial.blocks l.initial.places l.blocks l.places l.level
