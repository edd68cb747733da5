use Rattle.abi.proofs.NextRowExportsLaws as laws
use Rattle.abi.proofs.figures.put_next_row.Goals as goal

pub returns-in-Err : goal.returns-in-Err
returns-in-Err c = rw (c.put_u32-in-Err.ensures.0, c.put_u32-in-Err.ensures.1, c.number.ensures) (laws.next-row-refused _ _ _ c.in-Err.is)
