use Prim.Native.Nat.{◌-◌, ◌≤◌}
use Rattle.cases_tokens.proofs.DecimalLaws.{Numbers}
use Rattle.cases_tokens.proofs.decimal.figures.Given as goal

abbrev pub invariant-loop-k : goal.invariant-loop-k
invariant-loop-k l = record { inside : l.k - l.from ≤ l.to - l.from; numbers : Numbers l.line l.from l.k }
