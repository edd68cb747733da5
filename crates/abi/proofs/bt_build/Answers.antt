use mathlib.Core.Path.{◌∙◌}
use Rattle.abi.proofs.ExportsLaws as laws
use Rattle.abi.proofs.bt_build.Goals as goal

pub returns-in-Ok : goal.returns-in-Ok
returns-in-Ok c = let z = laws.build-answered _ _ _ c.build-built.ensures.number c.build-built.ensures.size _ c.in-Ok.is in record { number = c.put_u32.ensures.0 ∙ z.0; written = c.put_u32.ensures.1 ∙ z.1; buffer = c.build-built.ensures.buffer }

pub returns-in-Err : goal.returns-in-Err
returns-in-Err c = let z = laws.build-refused _ _ _ c.build-built.ensures.number c.build-built.ensures.size _ c.in-Err.is in record { number = c.put_u32-in-Err.ensures.0 ∙ c.number.ensures ∙ z.0; written = c.put_u32-in-Err.ensures.1 ∙ z.1; buffer = c.build-built.ensures.buffer }
