use native.Mathlib.Omega.{arith}
use Rattle.query_rank.proofs.SumsLaws as laws
use Rattle.query_rank.proofs.sums.down.Goals as goal

pub before-before-requires : goal.before-before-requires
before-before-requires c = laws.field-on _ _ _ _ _ _ _ c.requires.0 c.requires.1 c.requires.3.number_in (omega arith)

pub enter-requires : goal.enter-requires
enter-requires c = let s = laws.carried-small _ _ _ c.requires.3 c.requires.2 in (c.requires.2, s.0, s.1)

pub returns : goal.returns
returns c = record { value = rw c.before-before.ensures at c.enter.ensures; carried = laws.carried_on _ _ _ _ _ _ c.requires.3 c.enter.ensures (omega arith) (omega arith) }
