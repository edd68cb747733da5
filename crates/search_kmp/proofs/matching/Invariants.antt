use Rattle.search_kmp.specs.Borders.{GoesOn}
use Rattle.search_kmp.proofs.matching.Given as goal

abbrev pub invariant-loop-k : goal.invariant-loop-k
invariant-loop-k l = GoesOn l.pattern l.t l.from l.state l.k
