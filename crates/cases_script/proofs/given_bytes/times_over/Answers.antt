use Prim.Native.Nat.{◌*◌}
use mathlib.Core.Path.{sym}
use native.Mathlib.Omega.{arith}
use lib.Seq.{length-take-le}
use Rattle.cases_script.proofs.GivenBytesLaws.{over_none, over-long, total_inside, over-all}
use Rattle.cases_script.proofs.given_bytes.times_over.Goals as goal

pub returns-then-k-eq0 : goal.returns-then-k-eq0
returns-then-k-eq0 c = over_none c.args.out.now c.args.k c.args.times c.requires c.if-k-eq0.true

pub returns-then-out-k : goal.returns-then-out-k
returns-then-out-k c = over-long c.args.out.now c.args.k c.args.times c.requires (omega arith) c.if-out-k.true

pub overflow_mul-total : goal.overflow_mul-total
overflow_mul-total c = omega (arith, total_inside c.args.out.now c.args.k c.args.times c.requires (omega arith) c.if-out-k.false)

pub slice_bounds-again-end : goal.slice_bounds-again-end
slice_bounds-again-end c = total_inside c.args.out.now c.args.k c.args.times c.requires (omega arith) c.if-out-k.false

pub slice_bounds-again-end-2 : goal.slice_bounds-again-end-2
slice_bounds-again-end-2 c = sym (length-take-le (c.args.k * c.args.times)
    c.args.out.now (total_inside c.args.out.now c.args.k c.args.times c.requires (omega arith) c.if-out-k.false))

pub again-requires : goal.again-requires
again-requires c = omega arith

pub returns : goal.returns
returns c = over-all c.args.out.now c.args.k c.args.times c.requires _ _ (omega arith) (total_inside c.args.out.now
    c.args.k c.args.times c.requires (omega arith) c.if-out-k.false) c.again.ensures
