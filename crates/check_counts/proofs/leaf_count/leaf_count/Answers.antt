use mathlib.Core.Path.{sym}
use Prim.Native.Nat.{◌+◌, ◌-◌, ◌<◌}
use native.Mathlib.Omega.{arith}
use lib.Seq.{get_or-take, get_or-drop}
use Rattle.text.proofs.CountTheorems.{count_none, count-next-same, count-next-other}
use Rattle.check_counts.proofs.leaf_count.leaf_count.Goals as goal
use Rattle.check_counts.proofs.leaf_count.leaf_count.Goals.{then-x-byte, else-x-byte}

pub loop-x-init : goal.loop-x-init
loop-x-init c = (sym (count_none _ _ _), omega arith)

pub loop-x-preserved : goal.loop-x-preserved
loop-x-preserved c =
    let i = c.loop-x.x-index in
    let low : i < c.args.from + c.args.n - c.args.from = omega arith in
    elim c.if-x-byte.branch [
      | then-x-byte w ↦ (
        omega (arith, count-next-same c.args.byte c.args.t.now c.args.from i (omega arith) (rw (get_or-take, get_or-drop) at w.if-x-byte.true)),
        omega arith,
      )
      | else-x-byte w ↦ (
        omega (arith, count-next-other c.args.byte c.args.t.now c.args.from i (omega arith) (rw (get_or-take, get_or-drop) at w.if-x-byte.false)),
        omega arith,
      )
    ]
