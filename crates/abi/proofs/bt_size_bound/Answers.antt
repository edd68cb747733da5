use Rattle.build_size_bound.specs.SizeBound.{size_bound_reply}
use Rattle.abi.proofs.ExportsLaws as laws
use Rattle.abi.proofs.bt_size_bound.Goals as goal

pub returns-in-Ok : goal.returns-in-Ok
returns-in-Ok c = rw (c.put_u64.ensures.0, c.put_u64.ensures.1) (laws.reply-is size_bound_reply _ _ _ c.size_bound-room.ensures.answers c.in-Ok.is)

pub returns-in-Err : goal.returns-in-Err
returns-in-Err c = rw (c.put_u64-in-Err.ensures.0, c.put_u64-in-Err.ensures.1, c.number.ensures) (laws.reply-is size_bound_reply _ _ _ c.size_bound-room.ensures.answers c.in-Err.is)
