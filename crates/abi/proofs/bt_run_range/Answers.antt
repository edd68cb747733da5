use mathlib.Core.Path.{◌∙◌}
use native.Mathlib.Omega.{arith}
use Rattle.query_access.proofs.ByteLaws.{part-answered, part-refused}
use Rattle.abi.proofs.ExportsLaws as laws
use Rattle.abi.proofs.bt_run_range.Goals as goal

pub overflow_cast-part : goal.overflow_cast-part
overflow_cast-part c = let k = part-answered _ _ _ c.run_range-range.ensures _ c.in-Ok.is in
    omega (arith, k.length_is, laws.run_short c.args.tree.now c.args.place)

pub returns-in-Ok : goal.returns-in-Ok
returns-in-Ok c = let k = part-answered _ _ _ c.run_range-range.ensures _ c.in-Ok.is in record { value = c.put_u64.ensures.0 ∙ c.put_u32.ensures.0 ∙ k.number_is; offset_after = c.put_u64.ensures.1 ∙ k.from_is; len_after = c.put_u32.ensures.1 ∙ k.length_is }

pub returns-in-Err : goal.returns-in-Err
returns-in-Err c = let k = part-refused _ _ _ c.run_range-range.ensures _ c.in-Err.is in record { value = c.put_u64-in-Err.ensures.0 ∙ c.put_u32-in-Err.ensures.0 ∙ c.number.ensures ∙ k.number_is; offset_after = c.put_u64-in-Err.ensures.1 ∙ k.from_is; len_after = c.put_u32-in-Err.ensures.1 ∙ k.length_is }
