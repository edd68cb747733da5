use Prim.Native.Nat.{ℕ}
use mathlib.Core.Path.{ap}
use native.Mathlib.Omega.{arith}
use Rattle.query_access.proofs.ByteLaws as laws
use Rattle.query_access.proofs.run.Goals as goal

pub returns-in_default : goal.returns-in_default
returns-in_default c = let k = laws.part-refused _ _ _ c.run_range.ensures _ c.in_default.is in record { result_value = laws.part-empty _ _ _ k; ref_ptr_value = ap (λ (o : ℕ). (c.args.t.ref_ptr.0, o)) (omega (arith, k.from_is)) }

pub overflow_add-end : goal.overflow_add-end
overflow_add-end c = let k = laws.part-answered _ _ _ c.run_range.ensures _ c.in-Ok.is in
    omega (arith, k.inside)

pub slice_bounds-result-end-2 : goal.slice_bounds-result-end-2
slice_bounds-result-end-2 c = let k = laws.part-answered _ _ _ c.run_range.ensures _ c.in-Ok.is in k.inside

pub returns : goal.returns
returns c = let k = laws.part-answered _ _ _ c.run_range.ensures _ c.in-Ok.is in record { result_value = laws.part-list c.args.t.now _ _ k; ref_ptr_value = ap (λ (o : ℕ). (c.args.t.ref_ptr.0, o)) (omega (arith, k.from_is)) }
