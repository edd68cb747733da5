use mathlib.Core.Path.{◌∙◌}
use Rattle.abi.proofs.CountExportsLaws as laws
use Rattle.abi.proofs.bt_find.Goals as goal

pub returns-then-byte-gt255 : goal.returns-then-byte-gt255
returns-then-byte-gt255 c = rw (c.put_u32-then-byte-gt255.ensures.0, c.put_u32-then-byte-gt255.ensures.1, c.put_u32.ensures.0, c.put_u32.ensures.1) (laws.find-above c.args.tree.now (λ k. (c.shared_slice_known-1.given k).fits)
    _ c.if-byte-gt255.true _ _ (c.number-number.ensures ∙ c.uncounted.ensures))

pub returns-in-Ok : goal.returns-in-Ok
returns-in-Ok c = rw (c.put_u32-in-Ok-2.ensures.0, c.put_u32-in-Ok-2.ensures.1, c.put_u32-in-Ok.ensures.0, c.put_u32-in-Ok.ensures.1) (laws.find-answered _ _ _ _ c.find-found.ensures.answers _ _ c.in-Ok.is)

pub returns-in-Err : goal.returns-in-Err
returns-in-Err c = rw (c.put_u32-in-Err-2.ensures.0, c.put_u32-in-Err-2.ensures.1, c.put_u32-in-Err.ensures.0, c.put_u32-in-Err.ensures.1, c.number.ensures) (laws.find-refused _ _ _ _ c.find-found.ensures.answers _ c.in-Err.is)
