use native.Mathlib.Omega.{arith}
use Rattle.query_places.proofs.room.most.Goals as goal

pub returns-then-n-len : goal.returns-then-n-len
returns-then-n-len c = omega arith

pub overflow_sub-result : goal.overflow_sub-result
overflow_sub-result c = omega arith

pub overflow_sub-result-2 : goal.overflow_sub-result-2
overflow_sub-result-2 c = omega arith

pub returns : goal.returns
returns c = omega arith
