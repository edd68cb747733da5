use native.Mathlib.Omega.{arith}
use Rattle.layout.proofs.RecordLaws.{edges_are}
use Rattle.layout.proofs.record.edges.Goals as goal

pub returns : goal.returns
returns c = (
  edges_are c.args.t.now _ _ _ _ _ c.requires c.read-table.ensures _ c.table_bytes.ensures.0,
  omega (arith, c.table_bytes.ensures.1, c.requires.counted_few),
)
