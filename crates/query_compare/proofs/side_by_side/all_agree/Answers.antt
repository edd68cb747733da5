use mathlib.Core.Path.{◌≡◌, sym, ◌∙◌}
use native.Mathlib.Omega.{arith}
use Rattle.text.specs.ListLaws.{bool_clash}
use Rattle.query_compare.proofs.SideBySideLaws as laws
use Rattle.query_compare.proofs.side_by_side.all_agree.Goals as goal
use Rattle.query_compare.proofs.side_by_side.all_agree.Goals.{then-one-from, else-one-from}

pub loop-i-init : goal.loop-i-init
loop-i-init c = λ e x h. absurd (let z : ⊥ = omega arith in z)

-- One byte more.
pub loop-i-preserved : goal.loop-i-preserved
loop-i-preserved c = λ e. elim c.if-one-from.branch [
  | then-one-from w ↦ bool_clash _ e w.same-is
  | else-one-from w ↦ laws.agree-more c.args.one.now c.args.from c.args.other.now c.args.at _ (c.loop-i.invariant (sym w.same-is ∙ e)) w.if-one-from.false
]
