use Rattle.search_kmp.proofs.BorderLaws as laws
use Rattle.search_kmp.proofs.prepare.Given as goal

abbrev pub invariant-loop-i : goal.invariant-loop-i
invariant-loop-i l = laws.Filling l.pattern l.borders l.i l.k
