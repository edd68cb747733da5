use mathlib.Core.Path.{sym, ◌∙◌}
use native.Mathlib.Omega.{arith}
use Rattle.build_by_scan.proofs.ScannedFillLaws as laws
use Rattle.build_by_scan.proofs.WindowsCounted as counts
use Rattle.build_by_scan.proofs.scanned_fill.scan_level.Goals as goal

pub returns-then-level-eq0 : goal.returns-then-level-eq0
returns-then-level-eq0 c = let none = sym c.requires.0.level_is.count_is ∙ c.if-level-eq0.true in record { table_gives_marking = laws.answered-none _ _ _ _ (omega (arith, c.requires.1)) none; value = (sym (counts.windows-none _ _ _ none), omega arith) }

pub items_of-it-requires : goal.items_of-it-requires
items_of-it-requires c = laws.items-asks c.args.seed _ _ _ _ c.requires.0 c.requires.1 (omega (arith, c.if-level-eq0.false))

pub scan-requires : goal.scan-requires
scan-requires c = laws.scan-asks _ _ _ _ _ c.requires.0 c.requires.1 (omega (arith, c.if-level-eq0.false)) _ c.items_of-it.ensures _ c.requires.2

pub returns : goal.returns
returns c = record { table_gives_marking = laws.answered-by _ _ _ _ _ c.requires.0 c.requires.1 (omega (arith, c.if-level-eq0.false)) _ c.items_of-it.ensures _ c.scan.ensures.answered; value = counts.counted-by _ _ _ _ _ c.requires.0 c.requires.1 (omega (arith, c.if-level-eq0.false)) _ c.items_of-it.ensures _ c.scan.ensures.counted }
