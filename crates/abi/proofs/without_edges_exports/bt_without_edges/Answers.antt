use mathlib.Core.Path.{◌∙◌}
use Rattle.abi.proofs.WithoutEdgesExportsLaws as laws
use Rattle.abi.proofs.without_edges_exports.bt_without_edges.Goals as goal

pub returns-in-Ok : goal.returns-in-Ok
returns-in-Ok c = let z = laws.without-edges-size _ _ _ c.without_edges-answer.ensures.refusal c.without_edges-answer.ensures.size _ c.in-Ok.is in record { refusal = c.put_u64.ensures.0 ∙ z.0; written = c.put_u64.ensures.1 ∙ z.1; buffer = c.without_edges-answer.ensures.buffer }

pub returns-in-Err : goal.returns-in-Err
returns-in-Err c = let z = laws.without-edges-refused _ _ _ c.without_edges-answer.ensures.refusal c.without_edges-answer.ensures.size _ c.in-Err.is in record { refusal = c.put_u64-in-Err.ensures.0 ∙ c.number.ensures ∙ z.0; written = c.put_u64-in-Err.ensures.1 ∙ z.1; buffer = c.without_edges-answer.ensures.buffer }
