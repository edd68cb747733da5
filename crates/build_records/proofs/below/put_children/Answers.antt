use native.Mathlib.Omega.{arith}
use Rattle.build_records.proofs.BelowLaws.{below_all}
use Rattle.build_records.proofs.below.put_children.Goals as goal

pub returns-clause-records_up_to : goal.returns-clause-records_up_to
returns-clause-records_up_to c = below_all _ _ _ c.args.level c.args.next _ c.loop-i.invariant.below (omega arith)
