use mathlib.Core.Path.{◌∙◌}
use native.Mathlib.Omega.{arith}
use Rattle.layout.proofs.ShapeLaws.{Shapes, shapes}
use Rattle.walk_steps.proofs.StepLaws.{kept_in}
use Rattle.query_rank.proofs.SumsLaws as laws
use Rattle.query_rank.proofs.sums.leaf.Goals as goal

pub link-link-requires : goal.link-link-requires
link-link-requires c = laws.field-on _ _ _ _ _ _ 2 c.requires.0.on (kept_in _ _ _ c.requires.0.kept) c.requires.1.number_in (omega arith)

pub count_in-here-requires : goal.count_in-here-requires
count_in-here-requires c =
    let x : Shapes c.args.t.now c.shape_of-shape.result = shapes _ _ c.shape_of-shape.ensures in
    laws.leaf-fits _ _ _ _ _ _ _ _ _ c.requires.0.on c.link-link.ensures x.offset_is x.count_is c.if-number-shape.true

pub enter-all-requires : goal.enter-all-requires
enter-all-requires c =
    let few = laws.entered-small _ _ _ _ _ _ _ c.requires.0 in
    let small = laws.carried-small _ _ _ c.requires.1 few in
    (few, small.0, small.1)

pub packed-requires : goal.packed-requires
packed-requires c =
    laws.carried-word _ _ _ _ _ c.requires.1 (laws.entered-small _ _ _ _ _ _ _ c.requires.0) c.enter-all.ensures (omega arith)

pub returns-then-number-shape : goal.returns-then-number-shape
returns-then-number-shape c =
    let x : Shapes c.args.t.now c.shape_of-shape.result = shapes _ _ c.shape_of-shape.ensures in
    c.packed.ensures ∙ laws.leaf-sum _ _ _ _ _ _ _ _ _ _ c.requires.0 _ c.link-link.ensures
    _ _ x.offset_is (omega (arith, x.count_is, c.if-number-shape.true)) c.count_in-here.ensures.0 c.enter-all.ensures

pub returns : goal.returns
returns c =
    let x : Shapes c.args.t.now c.shape_of-shape.result = shapes _ _ c.shape_of-shape.ensures in
    laws.leaf-none _ _ _ _ _ _ _ _ _ _ c.requires.0 _ c.link-link.ensures (omega (arith, x.count_is, c.if-number-shape.false))
