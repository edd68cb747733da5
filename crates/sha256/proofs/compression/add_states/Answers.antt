use Rattle.sha256.proofs.CompressionLaws.{sums-are}
use Rattle.sha256.proofs.compression.add_states.Goals as goal

pub returns : goal.returns
returns c = sums-are c.args.s c.args.v _ _ _ _ _ _ _ _
    c.sum.ensures c.sum-2.ensures c.sum-3.ensures c.sum-4.ensures
    c.sum-5.ensures c.sum-6.ensures c.sum-7.ensures c.sum-8.ensures
