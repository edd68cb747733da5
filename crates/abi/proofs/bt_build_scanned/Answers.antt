use mathlib.Core.Path.{◌∙◌}
use Rattle.abi.proofs.ScanExportsLaws as laws
use Rattle.abi.proofs.bt_build_scanned.Goals as goal

pub returns-in-Ok : goal.returns-in-Ok
returns-in-Ok c = let n = c.put_u32-in-Ok.ensures.0 ∙ c.put_u32.ensures.0 in
    let z = laws.scan-answered _ _ _ _ c.build_scanned-scanned.ensures.number c.build_scanned-scanned.ensures.size c.build_scanned-scanned.ensures.windows _ _ c.build_scanned-scanned.ensures.table _ _ c.in-Ok.is in record { number = n ∙ z.0; written = c.put_u32-in-Ok.ensures.1 ∙ z.1; looked = c.put_u32.ensures.1 ∙ z.2; buffer = c.build_scanned-scanned.ensures.buffer; table = rw n z.3 }

pub returns-in-Err : goal.returns-in-Err
returns-in-Err c = let n = c.put_u32-in-Err-2.ensures.0 ∙ c.put_u32-in-Err.ensures.0 ∙ c.number.ensures in
    let z = laws.scan-refused _ _ _ _ c.build_scanned-scanned.ensures.number c.build_scanned-scanned.ensures.size c.build_scanned-scanned.ensures.windows _ _ c.build_scanned-scanned.ensures.table _ c.in-Err.is in record { number = n ∙ z.0; written = c.put_u32-in-Err-2.ensures.1 ∙ z.1; looked = c.put_u32-in-Err.ensures.1 ∙ z.2; buffer = c.build_scanned-scanned.ensures.buffer; table = rw n z.3 }
