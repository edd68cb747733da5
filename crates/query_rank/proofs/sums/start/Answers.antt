use native.Mathlib.Omega.{arith}
use Rattle.query_counted.proofs.TotalLaws.{counted-field-there}
use Rattle.query_rank.proofs.SumsLaws as laws
use Rattle.query_rank.proofs.sums.start.Goals as goal

pub before-requires : goal.before-requires
before-requires c = counted-field-there _ _ _ _ _ _
    c.requires.0 (omega (arith, c.requires.0.facts.bounds.levels_low)) c.requires.1 c.requires.2 (omega arith)

pub returns : goal.returns
returns c = record { value = laws.start_is _ _ _ _ c.before-2.ensures; carried = laws.start-carried _ _ _ c.requires.2 (omega arith) }
