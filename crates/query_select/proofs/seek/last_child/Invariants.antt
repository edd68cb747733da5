use Rattle.query_select.proofs.SeekLaws as laws
use Rattle.query_select.proofs.seek.last_child.Given as goal

abbrev pub invariant-loop-k : goal.invariant-loop-k
invariant-loop-k l = laws.LastSoFar l.t l.field.number l.level l.fn.blocks.first.0 l.k-end l.j l.k l.i l.going
