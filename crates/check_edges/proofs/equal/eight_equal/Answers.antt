use Rattle.check_edges.proofs.EightLaws as laws
use Rattle.check_edges.proofs.equal.eight_equal.Goals as goal

pub returns : goal.returns
returns c = laws.eight-same c.args.t.now c.args.p c.args.q _ _ c.eight.ensures c.eight-2.ensures c.requires.0 c.requires.1
    (λ k. (c.shared_slice_known-1.given k).fits)
