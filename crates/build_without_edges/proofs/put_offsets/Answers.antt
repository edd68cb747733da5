use mathlib.Core.Path.{◌∙◌}
use native.Mathlib.Omega.{arith}
use Rattle.build_without_edges.proofs.WithoutEdgesLaws as laws
use Rattle.build_without_edges.proofs.put_offsets.Goals as goal

pub loop-l-init : goal.loop-l-init
loop-l-init c = record { written = laws.offsets-none _ _; at_is = laws.offset-none _ }

pub overflow_mul-at : goal.overflow_mul-at
overflow_mul-at c = omega (arith, laws.offset-fits _ _ _ c.requires.0 _ _ _ (omega arith) c.loop-l.invariant.at_is c.level_count.ensures)

pub overflow_add-at : goal.overflow_add-at
overflow_add-at c = omega (arith, laws.offset-fits _ _ _ c.requires.0 _ _ _ (omega arith) c.loop-l.invariant.at_is c.level_count.ensures)

pub loop-l-preserved : goal.loop-l-preserved
loop-l-preserved c = record {
  written = c.write.ensures
      ∙ laws.offsets-more c.args.tree.now c.loop-l.l c.loop-l.at c.args.out.now c.loop-l.out c.loop-l.invariant.written c.loop-l.invariant.at_is;
  at_is = laws.offset-more c.args.tree.now _ _ _ _ c.loop-l.invariant.at_is c.level_count.ensures c.requires.0.stride_is;
}
