use lib.ListN.{length-set}
use Rattle.query_access.proofs.LeafRunLaws as laws
use Rattle.query_access.proofs.read_by_header.copy_range.Goals as goal

pub loop-k-preserved : goal.loop-k-preserved
loop-k-preserved c = record {
  same_length = simp length-set c.loop-k.invariant.same_length;
  written = laws.byte-written c.args.buffer.now c.loop-k.buffer c.args.t.now c.args.to _ c.loop-k.k c.loop-k.invariant.written
      _ _ _ _ c.byte_on-answer.ensures c.in-Ok.is;
}
