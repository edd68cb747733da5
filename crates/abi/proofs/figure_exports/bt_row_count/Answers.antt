use Rattle.query_rows.specs.RowAnswers.{row_count_reply}
use Rattle.abi.proofs.ExportsLaws as laws
use Rattle.abi.proofs.figure_exports.bt_row_count.Goals as goal

pub returns-in-Ok : goal.returns-in-Ok
returns-in-Ok c = rw (c.put_u64.ensures.0, c.put_u64.ensures.1) (laws.reply-is row_count_reply _ _ _ c.row_count-count.ensures.answers c.in-Ok.is)

pub returns-in-Err : goal.returns-in-Err
returns-in-Err c = rw (c.put_u64-in-Err.ensures.0, c.put_u64-in-Err.ensures.1, c.number.ensures) (laws.reply-is row_count_reply _ _ _ c.row_count-count.ensures.answers c.in-Err.is)
