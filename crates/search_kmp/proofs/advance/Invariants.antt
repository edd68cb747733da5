use Rattle.search_kmp.proofs.BorderLaws as laws
use Rattle.search_kmp.proofs.advance.Given as goal

abbrev pub invariant-loop-k : goal.invariant-loop-k
invariant-loop-k l = laws.Back l.pattern l.state l.byte l.k

abbrev pub decreases-loop-k : goal.decreases-loop-k
decreases-loop-k l = l.k
