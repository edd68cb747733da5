use native.Mathlib.Omega.{arith}
use Rattle.list_lines.proofs.LineLaws as laws
use Rattle.list_lines.proofs.kinds.count_of.Goals as goal
use Rattle.list_lines.proofs.kinds.count_of.Goals.{then-kind, else-kind}

pub loop-i-init : goal.loop-i-init
loop-i-init c = record { few = omega arith; found_is = laws.list-count-none _ }

pub kind-requires : goal.kind-requires
kind-requires c = laws.kind-there _ _ _ c.requires _ (omega (arith, c.level_count-count.ensures))

pub loop-i-preserved : goal.loop-i-preserved
loop-i-preserved c =
    elim c.if-kind.branch [
      | then-kind w ↦ record {
        few = omega arith;
        found_is = omega (arith, c.loop-i.invariant.found_is, laws.count-same _ _ _ _ _ c.kind.ensures w.if-kind.true);
      }
      | else-kind w ↦ record {
        few = omega arith;
        found_is = omega (arith, c.loop-i.invariant.found_is, laws.count-other _ _ _ _ _ c.kind.ensures w.if-kind.false);
      }
    ]
