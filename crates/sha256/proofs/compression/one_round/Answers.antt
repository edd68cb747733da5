use Rattle.sha256.proofs.CompressionLaws.{round_is}
use Rattle.sha256.proofs.compression.one_round.Goals as goal

pub returns : goal.returns
returns c = round_is c.args.k c.args.w c.args.s _ _ _ _ _ _ _ _
    c.big_sigma_1.ensures c.choose.ensures c.sum_of_five-t1.ensures
    c.big_sigma_0.ensures c.majority.ensures c.sum-t2.ensures
    c.sum.ensures c.sum-2.ensures
