use mathlib.Core.Path.{◌∙◌}
use Rattle.abi.proofs.ColumnExportsLaws as laws
use Rattle.abi.proofs.column_exports.bt_row_by_columns.Goals as goal

pub returns-in-Ok : goal.returns-in-Ok
returns-in-Ok c = record { value = laws.column-answered _ _ _ _ _ c.row_by_columns-copied.ensures.row_by_columns_answer _ _ c.in-Ok.is; buffer_after = c.row_by_columns-copied.ensures.buffer_after }

pub returns-in-Err : goal.returns-in-Err
returns-in-Err c = record { value = c.number.ensures ∙ laws.column-refused _ _ _ _ _ c.row_by_columns-copied.ensures.row_by_columns_answer _ c.in-Err.is; buffer_after = c.row_by_columns-copied.ensures.buffer_after }
