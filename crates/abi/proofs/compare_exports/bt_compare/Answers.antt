use Rattle.std.specs.Prelude.{Ok, Err}
use mathlib.Core.Path.{◌∙◌}
use Rattle.abi.proofs.OrderExportsLaws as laws
use Rattle.abi.proofs.compare_exports.bt_compare.Goals as goal

pub returns-in-Ok : goal.returns-in-Ok
returns-in-Ok c =
    let k = laws.order-answered _ _ _ c.compare-compared.ensures (Ok _) c.in-Ok.is in record {
      shared_after = rw (c.put_u32-in-Ok.ensures.0, c.put_u32-in-Ok.ensures.1, c.put_u32.ensures.0, c.put_u32.ensures.1, c.code.ensures) k.0;
      first_after = c.first_of.ensures ∙ k.1;
    }

pub returns-in-Err : goal.returns-in-Err
returns-in-Err c = let k = laws.order-answered _ _ _ c.compare-compared.ensures (Err _) c.in-Err.is in record { shared_after = rw (c.put_u32-in-Err-2.ensures.0, c.put_u32-in-Err-2.ensures.1, c.put_u32-in-Err.ensures.0, c.put_u32-in-Err.ensures.1, c.number.ensures) k.0; first_after = k.1 }
