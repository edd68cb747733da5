use Rattle.std.proofs.Common.{◌≡◌, refl, ◌∙◌, take, arith}
use Rattle.sha256.specs.Sha256.{schedule}
use Rattle.sha256.proofs.CompressionLaws.{schedule-more, schedule-all}
use Rattle.sha256.proofs.compression.extend.Goals as goal

pub loop-n-init : goal.loop-n-init
unfolding schedule
loop-n-init c = refl

pub loop-n-preserved : goal.loop-n-preserved
loop-n-preserved c =
    schedule-more (take 16 c.args.words.now) c.loop-n.words c.loop-n.n _ _ _ c.loop-n.invariant (omega (arith, c.loop-n.auto.words))
    c.small_sigma_1.ensures c.small_sigma_0.ensures c.sum_of_four.ensures

pub returns : goal.returns
returns c = let e : c.loop-n.n ≡ 48 = omega arith in
    schedule-all (take 16 c.args.words.now) c.loop-n.words (rw e at c.loop-n.invariant) (c.loop-n.auto.words ∙ c.requires)
