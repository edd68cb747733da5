use native.Mathlib.Omega.{arith}
use Rattle.layout.proofs.ShapeLaws.{shapes}
use Rattle.walk_steps.proofs.StepLaws.{kept_in, field-there}
use Rattle.query_select.proofs.LandLaws as laws
use Rattle.query_select.proofs.seek.leaf_place.Goals as goal

pub shape_of-shape-requires : goal.shape_of-shape-requires
shape_of-shape-requires c = c.requires.0.on.facts.long

pub link-link-requires : goal.link-link-requires
link-link-requires c = field-there _ _ _ _ _ 2 c.requires.0.on (kept_in _ _ _ c.requires.0.kept) (omega arith)

pub block_length-len-requires : goal.block_length-len-requires
block_length-len-requires c = record { on = c.requires.0.on; block_in = kept_in _ _ _ c.requires.0.kept }

pub returns-then-shape-link : goal.returns-then-shape-link
returns-then-shape-link c = let x = shapes _ _ c.shape_of-shape.ensures in
    laws.leaf-past _ _ _ _ _ _ _ _ _ _ _ _ c.requires.0 c.requires.2 c.link-link.ensures c.block_length-len.ensures
    x.offset_is x.count_is _ c.if-shape-link.true

pub overflow_add-byte : goal.overflow_add-byte
overflow_add-byte c = omega (arith, c.requires.1.number_in, c.requires.1.on.facts.bounds.counted_high)

pub bounds-t-field : goal.bounds-t-field
bounds-t-field c = omega (arith, c.requires.1.number_in, c.requires.1.on.facts.bounds.counted_high, c.requires.1.on.facts.long)

pub find_nth-place-requires : goal.find_nth-place-requires
find_nth-place-requires c = let x = shapes _ _ c.shape_of-shape.ensures in (
  laws.leaf_room _ _ 0 _ _ _ 0 0 _ _ _ _ c.requires.0 c.requires.2 c.link-link.ensures c.block_length-len.ensures
      x.offset_is x.count_is c.if-shape-link.false,
  c.requires.1.low,
)

pub enter-requires : goal.enter-requires
enter-requires c = (omega (arith, c.requires.1.near, c.requires.1.on.level_in, c.requires.1.on.facts.bounds.levels_high), omega arith)

pub returns-then-place-len : goal.returns-then-place-len
returns-then-place-len c = let x = shapes _ _ c.shape_of-shape.ensures in
    laws.leaf-found _ _ _ _ _ _ _ _ _ _ _ _ c.requires.0 c.requires.2 c.link-link.ensures c.block_length-len.ensures
    x.offset_is x.count_is
    _ (laws.named-byte _ _ c.requires.0.on.facts c.requires.1.number_in) _ c.find_nth-place.ensures _ c.if-place-len.true c.enter.ensures

pub returns : goal.returns
returns c = let x = shapes _ _ c.shape_of-shape.ensures in
    laws.leaf-fewer _ _ _ _ _ _ _ _ _ _ _ _ c.requires.0 c.requires.2 c.link-link.ensures c.block_length-len.ensures
    x.offset_is x.count_is _ (laws.named-byte _ _ c.requires.0.on.facts c.requires.1.number_in) _ c.find_nth-place.ensures _ c.if-place-len.false
