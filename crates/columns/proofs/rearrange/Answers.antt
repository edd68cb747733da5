use Rattle.refusals.specs.RefusalsLaws.{passed-on}
use Rattle.columns.specs.ColumnLaws.{width_low}
use Rattle.columns.proofs.ColumnsWritten.{let_through, not-stopped, leaves-refused, by_rows, by_columns, leaves-rows, leaves-columns, either_way}
use Rattle.columns.proofs.rearrange.Goals as goal

pub returns-in_err-check_lengths : goal.returns-in_err-check_lengths
returns-in_err-check_lengths c =
    let k = leaves-refused _ c.args.text.now c.args.out.now _ c.check_lengths.ensures _ c.in_err-check_lengths.was _ (passed-on _ _ c.from_residual.ensures.1) in
    record { value = k.0; out_after = either_way c.args.back _ _ _ k.2 k.1 }

pub nonzero_div-rows : goal.nonzero_div-rows
nonzero_div-rows c = width_low _ _ (let_through _ c.args.text.now c.args.out.now (not-stopped _ _ _ _ c.check_lengths.ensures _ c.in_ok-check_lengths.was)).0

pub transpose-requires : goal.transpose-requires
transpose-requires c = by_columns _ c.args.text.now c.args.out.now (not-stopped _ _ _ _ c.check_lengths.ensures _ c.in_ok-check_lengths.was)

pub transpose-requires-else-back : goal.transpose-requires-else-back
transpose-requires-else-back c = by_rows _ c.args.text.now c.args.out.now (not-stopped _ _ _ _ c.check_lengths.ensures _ c.in_ok-check_lengths.was)

pub returns-then-back : goal.returns-then-back
returns-then-back c =
    let k = leaves-rows _ c.args.text.now c.args.out.now (not-stopped _ _ _ _ c.check_lengths.ensures _ c.in_ok-check_lengths.was) _ c.transpose.ensures in
    record { value = k.0; out_after = rw c.if-back.true k.1 }

pub returns-else-back : goal.returns-else-back
returns-else-back c =
    let k = leaves-columns _ c.args.text.now c.args.out.now (not-stopped _ _ _ _ c.check_lengths.ensures _ c.in_ok-check_lengths.was) _ c.transpose-else-back.ensures in
    record { value = k.0; out_after = rw c.if-back.false k.1 }
