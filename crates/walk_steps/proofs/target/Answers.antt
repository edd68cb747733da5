use native.Mathlib.Omega.{arith}
use Rattle.walk_steps.proofs.StepLaws as laws
use Rattle.walk_steps.proofs.target.Goals as goal

pub link-link-requires : goal.link-link-requires
link-link-requires c = laws.pointing-there _ _ _ _ _ _ c.requires 2 (omega arith)

pub gap-gap-requires : goal.gap-gap-requires
gap-gap-requires c = laws.pointing-there _ _ _ _ _ _ c.requires 3 (omega arith)

pub overflow_add-sum : goal.overflow_add-sum
overflow_add-sum c = omega (arith, laws.sum-small _ _ _ _ _ _ c.requires _ c.gap-gap.ensures)

pub overflow_mul-over : goal.overflow_mul-over
overflow_mul-over c = record {
  fits = omega (
    arith,
    c.past-over.ensures.2,
    laws.sum-small _ _ _ _ _ _ c.requires _ c.gap-gap.ensures,
  );
}

pub returns : goal.returns
returns c = laws.target-by _ _ _ _ _ _
    c.requires _ _ c.link-link.ensures c.gap-gap.ensures _ _ c.past-over.ensures.0 c.classify_next.ensures
