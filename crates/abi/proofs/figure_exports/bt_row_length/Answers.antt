use Rattle.abi.proofs.FigureExportsLaws as laws
use Rattle.abi.proofs.figure_exports.bt_row_length.Goals as goal

pub returns-in-Ok : goal.returns-in-Ok
returns-in-Ok c = rw (c.put_u32.ensures.0, c.put_u32.ensures.1) (laws.length-answered _ _ _ c.row_length-length.ensures.answers _ c.in-Ok.is)

pub returns-in-Err : goal.returns-in-Err
returns-in-Err c = rw (c.put_u32-in-Err.ensures.0, c.put_u32-in-Err.ensures.1, c.number.ensures) (laws.length-refused _ _ _ c.row_length-length.ensures.answers _ c.in-Err.is)
