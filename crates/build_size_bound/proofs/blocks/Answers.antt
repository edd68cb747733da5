use mathlib.Core.Path.{◌≡◌, ◌∙◌}
use native.Mathlib.Omega.{arith}
use Rattle.build_size_bound.proofs.SizeBoundLaws as laws
use Rattle.build_size_bound.specs.SizeBound.{blocks_at_most}
use Rattle.build_size_bound.proofs.blocks.Goals as goal

pub loop-l-init : goal.loop-l-init
loop-l-init c = record { few = omega arith; sum_is = laws.none_first _ }

pub pieces-requires : goal.pieces-requires
pieces-requires c = (
  c.requires.2,
  rw c.block_length.ensures (laws.block-low c.args.s c.requires.0 c.requires.1 c.loop-l.l),
  rw c.block_length.ensures (laws.block-few c.args.s c.requires.0 c.requires.1 c.loop-l.l),
)

pub loop-l-preserved : goal.loop-l-preserved
loop-l-preserved c =
    let p-is = c.from-sum.ensures ∙ c.pieces.ensures in
    let few = laws.level-few c.args.s c.requires.0 c.requires.1 c.args.n c.loop-l.l 0 _ _ c.requires.2 c.block_length.ensures p-is in record {
      few = omega (arith, c.loop-l.invariant.few, few);
      sum_is = laws.one_level c.args.s c.requires.0 c.requires.1
          c.args.n c.loop-l.l _ _ _ c.requires.2 c.block_length.ensures p-is c.loop-l.invariant.sum_is;
    }

pub returns : goal.returns
unfolding blocks_at_most
returns c = let e : c.loop-l.l ≡ c.args.s.levels = omega arith in (
  c.loop-l.invariant.sum_is ∙ rw e,
  omega (arith, c.loop-l.invariant.few, c.requires.0.bounds.levels_high),
)
