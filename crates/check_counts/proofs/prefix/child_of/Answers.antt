use Prim.Native.Nat.{◌+◌}
use native.Mathlib.Omega.{arith}
use Rattle.check_counts.proofs.PrefixLaws as laws
use Rattle.check_counts.proofs.CountsHeader as facts
use Rattle.check_counts.proofs.prefix.child_of.Goals as goal

pub link-link-requires : goal.link-link-requires
link-link-requires c = laws.link-there _ _ _ _ _ _ c.requires.0 c.requires.1 c.requires.2

pub div_rem-part-requires : goal.div_rem-part-requires
div_rem-part-requires c = laws.step-pos _ _ _ _ _ _ c.requires.0 c.requires.1 c.requires.2

pub overflow_add-result : goal.overflow_add-result
overflow_add-result c = omega (
  arith,
  facts.count-lt c.args.t.now (c.args.level + 1) (λ k. (c.shared_slice_known-1.given k).fits),
  laws.child-below _ _ _ _ _ _ c.requires.0 c.requires.1 c.requires.2 _ _ c.link-link.ensures c.div_rem-part.ensures,
)

pub returns : goal.returns
returns c = laws.child-is _ _ _ _ _ _ c.requires.0 c.requires.1 c.requires.2 _ _ c.link-link.ensures c.div_rem-part.ensures
