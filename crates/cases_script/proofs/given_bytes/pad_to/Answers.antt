use Rattle.cases_script.proofs.GivenBytesLaws.{pad-short, pad-long, pad-all}
use Rattle.cases_script.proofs.given_bytes.pad_to.Goals as goal

pub returns-then-to-n : goal.returns-then-to-n
returns-then-to-n c = pad-short c.args.out.now c.args.n c.args.size c.requires c.if-to-n.true

pub returns-then-out-to : goal.returns-then-out-to
returns-then-out-to c = pad-long c.args.out.now c.args.n c.args.size c.requires c.if-to-n.false c.if-out-to.true

pub returns : goal.returns
returns c = pad-all c.args.out.now c.args.n c.args.size c.requires _ _ c.if-to-n.false c.if-out-to.false c.fill.ensures
