use lib.ListN.{length}
use native.Mathlib.Omega.{arith}
use Rattle.build_levels.proofs.LevelZeroLaws.{sized-pos, sized-high, first_made}
use Rattle.build_levels.proofs.level_step.first_level.Goals as goal

pub pieces-requires : goal.pieces-requires
pieces-requires c = (
  c.requires.2,
  omega (
    arith,
    c.block_length-size.ensures,
    sized-pos c.args.s c.requires.0 c.requires.1,
  ),
  omega (arith, c.block_length-size.ensures, sized-high c.args.s c.requires.0),
)

pub returns : goal.returns
returns c = first_made c.args.s (length c.args.text.now) _ _ c.block_length-size.ensures c.pieces.ensures
