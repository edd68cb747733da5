use Rattle.cases_tokens.specs.Parts.{Start}
use Rattle.cases_tokens.proofs.parts.start.Given as goal

abbrev pub invariant-loop : goal.invariant-loop
invariant-loop l = Start l.line l.counter l.at
