use Rattle.query_access.specs.ReadAnswers.{byte_reply}
use Rattle.abi.proofs.ExportsLaws as laws
use Rattle.abi.proofs.bt_byte.Goals as goal

pub returns-in-Ok : goal.returns-in-Ok
returns-in-Ok c = rw (c.put_u32-in-Ok.ensures.0, c.put_u32-in-Ok.ensures.1, c.put_u32.ensures.0, c.put_u32.ensures.1) (laws.reply-is byte_reply _ _ _ c.byte-answer.ensures c.in-Ok.is)

pub returns-in-Err : goal.returns-in-Err
returns-in-Err c = rw (c.put_u32-in-Err-2.ensures.0, c.put_u32-in-Err-2.ensures.1, c.put_u32-in-Err.ensures.0, c.put_u32-in-Err.ensures.1, c.number-number.ensures) (laws.reply-is byte_reply _ _ _ c.byte-answer.ensures c.in-Err.is)
