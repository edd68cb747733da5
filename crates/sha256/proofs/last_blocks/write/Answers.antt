use Rattle.std.proofs.Common.{◌++◌, get_or, arith}
use Rattle.text.specs.ListLaws.{tab-none, tab-more}
use Rattle.sha256.specs.Sha256.{padding}
use Rattle.sha256.proofs.last_blocks.write.Goals as goal

pub loop-i-init : goal.loop-i-init
loop-i-init c = tab-none (λ j. get_or (c.args.rest.now ++ padding c.args.n) j 0) c.args.last.now

pub loop-i-preserved : goal.loop-i-preserved
loop-i-preserved c =
    tab-more c.loop-i.i _ (λ j. get_or (c.args.rest.now ++ padding c.args.n) j 0) c.args.last.now c.loop-i.last
    (omega (arith, c.requires.2)) c.byte_at.ensures c.loop-i.invariant
