use Rattle.layout.specs.HeaderFields.{header-good}
use Rattle.refusals.specs.RefusalsLaws.{passed-on}
use Rattle.tree.proofs.CheckLaws.{header-number}
use Rattle.tree.proofs.check.Goals as goal

pub returns-in_err-h : goal.returns-in_err-h
returns-in_err-h c = rw (passed-on _ _ c.from_residual.ensures.1) (header-number c.args.t.now _ _ c.read_header.ensures c.in_err-h.was)

pub check_tables-requires : goal.check_tables-requires
check_tables-requires c = header-good c.args.t.now _ c.read_header.ensures _ c.in_ok-h.was
