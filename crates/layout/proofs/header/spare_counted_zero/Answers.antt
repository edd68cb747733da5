use Rattle.layout.proofs.HeaderLaws.{spare-below}
use Rattle.layout.proofs.header.spare_counted_zero.Goals as goal

pub returns : goal.returns
returns c = spare-below c.args.t.now (λ x. (c.shared_slice_known-1.given x).fits) c.args.k _ c.requires.1 c.read.ensures
