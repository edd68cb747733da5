use mathlib.Core.Path.{◌∙◌}
use Rattle.abi.proofs.LicenceExportsLaws as laws
use Rattle.abi.proofs.licence_exports.bt_open_on.Goals as goal

pub returns-in-Ok : goal.returns-in-Ok
returns-in-Ok c =
    let z = laws.open_is _ _ _ _ c.open_on.ensures _ c.in-Ok.is in
    record { value = c.put_u32.ensures.0 ∙ z.0; is_open_after = c.put_u32.ensures.1 ∙ c.from.ensures ∙ laws.truth-figure _ ∙ z.1 }

pub returns-in-Err : goal.returns-in-Err
returns-in-Err c =
    let z = laws.open_is _ _ _ _ c.open_on.ensures _ c.in-Err.is in
    record { value = c.put_u32-in-Err.ensures.0 ∙ c.number.ensures ∙ z.0; is_open_after = c.put_u32-in-Err.ensures.1 ∙ z.1 }
