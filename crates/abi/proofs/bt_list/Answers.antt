use Rattle.list_lines.specs.ListedLines.{list_reply}
use Rattle.abi.proofs.ExportsLaws as laws
use Rattle.abi.proofs.bt_list.Goals as goal

pub returns-in-Ok : goal.returns-in-Ok
returns-in-Ok c = record { len_after = rw (c.put_u32.ensures.0, c.put_u32.ensures.1) (laws.reply-is list_reply _ _ _ c.list-listed.ensures.list_answer.answers c.in-Ok.is); out_after = c.list-listed.ensures.out_after }

pub returns-in-Err : goal.returns-in-Err
returns-in-Err c = record { len_after = rw (c.put_u32-in-Err.ensures.0, c.put_u32-in-Err.ensures.1, c.number.ensures) (laws.reply-is list_reply _ _ _ c.list-listed.ensures.list_answer.answers c.in-Err.is); out_after = c.list-listed.ensures.out_after }
