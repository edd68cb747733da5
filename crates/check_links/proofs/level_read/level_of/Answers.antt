use mathlib.Core.Path.{refl}
use native.Mathlib.Omega.{arith}
use Rattle.format.specs.LayoutLaws.{full-small}
use Rattle.check_links.proofs.LevelReadLaws as laws
use Rattle.check_links.proofs.level_read.level_of.Goals as goal

pub level_count-requires : goal.level_count-requires
level_count-requires c = laws.table-there _ _ c.requires.0 _ c.requires.1

pub pieces-requires : goal.pieces-requires
pieces-requires c = let part = laws.part-fits _ c.requires.0.facts _ _ c.part_length-part.ensures in
    (omega (arith, c.requires.2, full-small _ c.requires.0.facts c.args.number), part.0, part.1)

pub returns : goal.returns
returns c = (
  record {
    header_read = c.requires.0.facts;
    level_in = omega (arith, c.requires.1, laws.levels_is _ _ c.requires.0);
    size_is = laws.size_is _ _ c.requires.0;
    length_is = laws.length_is _ _ c.requires.0;
    last_is = laws.last_is _ _ c.requires.0;
    count_is = c.level_count.ensures;
    full_is = c.requires.2;
    part_is = c.part_length-part.ensures;
    most_is = c.pieces.ensures;
    room_is = c.room_below.ensures;
  },
  refl,
)
