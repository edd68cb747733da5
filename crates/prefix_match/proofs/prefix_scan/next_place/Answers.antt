use mathlib.Core.Path.{sym, ◌∙◌}
use native.Mathlib.Omega.{arith}
use Rattle.prefix_match.proofs.PrefixScanLaws as laws
use Rattle.prefix_match.proofs.prefix_scan.next_place.Goals as goal

pub returns-then-is_open : goal.returns-then-is_open
returns-then-is_open c = (omega arith, omega arith, laws.passed_none _ _ _)

pub returns : goal.returns
returns c = (omega arith, omega (arith, c.find.ensures.high), laws.passed-before _ _ _ _ (sym c.is_open.ensures ∙ c.if-is_open.false) c.find.ensures.absent)
