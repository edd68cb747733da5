use native.Mathlib.Omega.{arith}
use Rattle.scan_hash_table.proofs.ChainHeadLaws.{marks-lt, is-pushed}
use Rattle.scan_hash_table.proofs.chain_head.pushed.Goals as goal

pub overflow_mul-result : goal.overflow_mul-result
overflow_mul-result c = omega (arith, marks-lt c.args.w c.args.h _ c.requires)

pub overflow_add-result-2 : goal.overflow_add-result-2
overflow_add-result-2 c = omega (arith, marks-lt c.args.w c.args.h _ c.requires)

pub returns : goal.returns
returns c = is-pushed _ _ _ c.requires
