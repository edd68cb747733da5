use Rattle.std.proofs.Common.{◌+◌, ◌∙◌, sym, arith}
use Rattle.std.proofs.lemmas.List.Edits.{get_or-between}
use Rattle.text.proofs.CountTheorems.{count_none, count-next-same, count-next-other}
use Rattle.byte_slices.proofs.count_in.Goals as goal
use Rattle.byte_slices.proofs.count_in.Goals.{then-b-byte, else-b-byte}

pub loop-b-init : goal.loop-b-init
loop-b-init c = (sym (count_none _ _ _), omega arith)

pub loop-b-preserved : goal.loop-b-preserved
loop-b-preserved c =
    let t = c.args.t.now in
    let from = c.args.from in
    let i = c.loop-b.b-index in
    let here = get_or-between t from (from + c.args.n) i 0 (omega arith) in
    elim c.if-b-byte.branch [
      | then-b-byte w ↦ (omega (arith, count-next-same c.args.byte t from i (omega arith) (sym here ∙ w.if-b-byte.true)), omega arith)
      | else-b-byte w ↦ (omega (arith, count-next-other c.args.byte t from i (omega arith) (λ e. w.if-b-byte.false (here ∙ e))), omega arith)
    ]
