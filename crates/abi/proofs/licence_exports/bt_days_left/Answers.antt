use mathlib.Core.Path.{◌∙◌}
use mir.Syntax.{w32}
use mir.ValLaws.{to_z-of_z}
use Rattle.abi.proofs.LicenceExportsLaws as laws
use Rattle.abi.proofs.licence_exports.bt_days_left.Goals as goal

pub returns-in-Ok : goal.returns-in-Ok
returns-in-Ok c =
    let k = laws.left-answered _ _ _ c.days_left.ensures _ c.in-Ok.is in
    record { value = k.0; days_after = to_z-of_z w32 _ (record { sfits = c.in-Ok.known_told-1-own.given.0.1 }) ∙ k.1 }

pub returns-in-Err : goal.returns-in-Err
returns-in-Err c = let both = laws.left-refused _ _ _ c.days_left.ensures _ c.in-Err.is in record { value = c.number.ensures ∙ both.0; days_after = both.1 }
