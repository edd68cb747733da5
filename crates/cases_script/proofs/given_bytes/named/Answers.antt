use lib.ListN.{length}
use Rattle.cases_script.proofs.GivenBytesLaws.{named-is, as-given}
use Rattle.cases_script.proofs.given_bytes.named.Goals as goal

pub returns : goal.returns
returns c = as-given (named-is c.args.script.now c.args.name.now _ (length c.args.out.now) c.giving.ensures) c.make.ensures
