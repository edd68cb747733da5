use Rattle.build_records.proofs.EdgeBytes.{edge-then}
use Rattle.build_records.proofs.record_written.put_edge.Goals as goal

pub returns : goal.returns
returns c = edge-then c.args.out.now _ _ c.args.text.now c.args.at c.args.from.0 c.args.own c.args.m c.copy.ensures c.clear_at.ensures
