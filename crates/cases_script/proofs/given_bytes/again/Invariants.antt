use Rattle.cases_script.proofs.GivenBytesLaws.{Again}
use Rattle.cases_script.proofs.given_bytes.again.Given as goal

abbrev pub invariant-loop-i : goal.invariant-loop-i
invariant-loop-i l = Again l.initial.out l.out l.k l.i
