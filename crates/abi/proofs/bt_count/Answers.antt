use mathlib.Core.Path.{◌∙◌}
use Rattle.query_rank.specs.Counts.{count_reply}
use Rattle.abi.proofs.ExportsLaws.{reply-is}
use Rattle.abi.proofs.CountExportsLaws as laws
use Rattle.abi.proofs.bt_count.Goals as goal

pub returns-then-byte-gt255 : goal.returns-then-byte-gt255
returns-then-byte-gt255 c = rw (c.put_u64.ensures.0, c.put_u64.ensures.1, c.put_u32.ensures.0, c.put_u32.ensures.1) (laws.count-above c.args.tree.now (λ k. (c.shared_slice_known-1.given k).fits)
    _ c.if-byte-gt255.true _ _ (c.number-number.ensures ∙ c.uncounted.ensures))

pub returns-in-Ok : goal.returns-in-Ok
returns-in-Ok c = rw (c.put_u64-in-Ok.ensures.0, c.put_u64-in-Ok.ensures.1, c.put_u32-in-Ok.ensures.0, c.put_u32-in-Ok.ensures.1) (reply-is count_reply _ _ _ c.count-counted.ensures.answers c.in-Ok.is)

pub returns-in-Err : goal.returns-in-Err
returns-in-Err c = rw (c.put_u64-in-Err.ensures.0, c.put_u64-in-Err.ensures.1, c.put_u32-in-Err.ensures.0, c.put_u32-in-Err.ensures.1, c.number.ensures) (reply-is count_reply _ _ _ c.count-counted.ensures.answers c.in-Err.is)
