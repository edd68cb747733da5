use Rattle.build_marking.proofs.PairLaws.{again-here, first-here}
use Rattle.build_marking.proofs.pair.pair_at.Goals as goal

pub returns-then-occurs_earlier : goal.returns-then-occurs_earlier
returns-then-occurs_earlier c = again-here c.args.text.now
    c.args.start.0 c.args.size _ _ c.requires.0 c.min-len.ensures c.occurs_earlier.ensures c.if-occurs_earlier.true

pub returns : goal.returns
returns c = first-here c.args.text.now
    c.args.start.0 c.args.size _ _ c.requires.0 c.min-len.ensures c.occurs_earlier.ensures c.if-occurs_earlier.false
