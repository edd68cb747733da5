use mathlib.Core.Path.{sym, ◌∙◌}
use native.Mathlib.Omega.{arith}
use Rattle.keys.proofs.FormLaws.{cuts-end, cuts-past, cuts-more, cuts-wrong}
use Rattle.keys.proofs.key_state.in_cuts.Goals as goal

pub returns-then-byte-eq13 : goal.returns-then-byte-eq13
returns-then-byte-eq13 c = cuts-end _ _ _ c.if-ranges-at.true c.if-byte-eq13.true

pub returns-then-ranges-at : goal.returns-then-ranges-at
returns-then-ranges-at c = cuts-past _ _ _ c.if-ranges-at.true c.if-byte-eq13.false

pub cut_fits-requires : goal.cut_fits-requires
cut_fits-requires c = c.if-ranges-at.false

pub overflow_add-result : goal.overflow_add-result
overflow_add-result c = omega (arith, c.if-ranges-at.false)

pub returns-then-cut_fits : goal.returns-then-cut_fits
returns-then-cut_fits c = cuts-more _ _ _ c.if-ranges-at.false (sym c.cut_fits.ensures ∙ c.if-cut_fits.true)

pub returns : goal.returns
returns c = cuts-wrong _ _ _ c.if-ranges-at.false (sym c.cut_fits.ensures ∙ c.if-cut_fits.false)
