use native.Mathlib.Omega.{arith}
use Rattle.check_counts.proofs.BlockCountsLaws as laws
use Rattle.check_counts.proofs.PrefixLaws.{walk-small}
use Rattle.check_counts.proofs.CountsHeader as facts
use Rattle.check_counts.proofs.block_counts.pointing_inside.Goals as goal

pub block_length-length-requires : goal.block_length-length-requires
block_length-length-requires c = facts.stands _ _ _ _ _ c.requires.1 _ c.requires.0

pub overflow_sub-end : goal.overflow_sub-end
overflow_sub-end c = laws.length-pos _ _ _ _ _ c.requires.1 _ c.block_length-length.ensures.0

pub prefix_target-holder-requires : goal.prefix_target-holder-requires
prefix_target-holder-requires c = (c.requires.0, laws.end-there _ _ _ _ _ c.requires.1 c.requires.2 c.requires.3 _ c.block_length-length.ensures.0)

pub up_to-rest-requires : goal.up_to-rest-requires
up_to-rest-requires c = (
  c.requires.0,
  laws.points-above _ _ _ _ _ c.requires.1 c.requires.2 c.requires.3,
  laws.holder-there _ _ _ _ _ c.requires.1 c.requires.2 c.requires.3 _ c.block_length-length.ensures.0 _ c.prefix_target-holder.ensures.0,
)

pub overflow_add-result : goal.overflow_add-result
overflow_add-result c = omega (
  arith,
  c.prefix_target-holder.ensures.1,
  walk-small _ _ _ _ _ _ _ c.requires.0
      (laws.holder-there _ _ _ _ _ c.requires.1 c.requires.2 c.requires.3 _ c.block_length-length.ensures.0 _ c.prefix_target-holder.ensures.0)
      _ c.up_to-rest.ensures,
)

pub returns : goal.returns
returns c = laws.holder-is _ _ _ _ _ c.requires.1 c.requires.2 c.requires.3 _ c.block_length-length.ensures.0 _ c.prefix_target-holder.ensures.0 _
    c.up_to-rest.ensures
