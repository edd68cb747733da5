use mathlib.Core.Path.{◌∙◌}
use Rattle.abi.proofs.ExportsLaws as laws
use Rattle.abi.proofs.bt_span.Goals as goal

pub returns-in-Ok : goal.returns-in-Ok
returns-in-Ok c = let z = laws.span-answered _ _ _ _ _ c.span-copied.ensures.span_answer _ _ c.in-Ok.is in record { value = c.put_u32.ensures.0 ∙ z.0; entered_after = c.put_u32.ensures.1 ∙ z.1; buffer_after = c.span-copied.ensures.buffer_after }

pub returns-in-Err : goal.returns-in-Err
returns-in-Err c = let z = laws.span-refused _ _ _ _ _ c.span-copied.ensures.span_answer _ c.in-Err.is in record { value = c.put_u32-in-Err.ensures.0 ∙ c.number.ensures ∙ z.0; entered_after = c.put_u32-in-Err.ensures.1 ∙ z.1; buffer_after = c.span-copied.ensures.buffer_after }
