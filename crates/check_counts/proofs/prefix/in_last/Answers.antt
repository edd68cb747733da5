use native.Mathlib.Omega.{arith}
use Rattle.check_counts.proofs.PrefixLaws as laws
use Rattle.check_counts.proofs.CountsHeader as facts
use Rattle.check_counts.proofs.prefix.in_last.Goals as goal

pub before-before-requires : goal.before-before-requires
before-before-requires c = facts.before-there _ _ _ _ _ c.requires.1.table

pub overflow_add-position : goal.overflow_add-position
overflow_add-position c = omega (arith, c.requires.1.place-in, facts.length-lt _ _ _ _ _ c.requires.1.table)

pub in_leaves-within-requires : goal.in_leaves-within-requires
in_leaves-within-requires c = (c.requires.1.table, c.requires.0, omega (arith, c.requires.1.place-in))

pub returns : goal.returns
returns c = laws.last_is _ _ _ _ _ _ c.before-before.ensures _ c.in_leaves-within.ensures.0
