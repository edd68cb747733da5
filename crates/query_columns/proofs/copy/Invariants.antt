use Rattle.query_columns.proofs.ColumnRowLaws as laws
use Rattle.query_columns.proofs.copy.Given as goal

abbrev pub invariant-loop-b : goal.invariant-loop-b
invariant-loop-b l = laws.Reading l.t l.width l.a l.initial.buffer l.buffer l.b
